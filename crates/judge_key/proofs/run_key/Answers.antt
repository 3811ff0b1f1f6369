use Rattle.judge_key.proofs.Laws.{run_window_asks}
use Rattle.std.proofs.Common.{rules}
use Rattle.judge_key.proofs.run_key.Goals as goal

-- src/lib.rt:27:9
pub window-w-requires : goal.window-w-requires
window-w-requires c = search (run_window_asks, rules)
