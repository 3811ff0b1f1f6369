use Rattle.std.proofs.Common.{arith}
use Rattle.table.specs.Store.{store_of}
use Rattle.table.proofs.Limits.{counted_facts, limited_cases, limited_true, true_limited}
use Rattle.table.proofs.limited.Goals as goal

pub overflow_mul-z : goal.overflow_mul-z
overflow_mul-z c = grind (arith, limited_cases)

pub overflow_mul-result : goal.overflow_mul-result
overflow_mul-result c = grind (arith, limited_cases)

pub returns-then-z-table : goal.returns-then-z-table
returns-then-z-table c =
    let σ = store_of c.args.z c.args.keys.now c.args.table.now c.args.buffers.now in
    grind (arith, counted_facts, limited_true σ, true_limited σ)

pub returns-else-z-table : goal.returns-else-z-table
returns-else-z-table c =
    let σ = store_of c.args.z c.args.keys.now c.args.table.now c.args.buffers.now in
    grind (arith, counted_facts, limited_true σ, true_limited σ)
