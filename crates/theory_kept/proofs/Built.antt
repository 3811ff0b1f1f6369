-- What build leaves is accepted by the check, and reads as the keys that were given; so the plain list of "all reads loaded and taken in" starts as these.
-- Assumes nothing.
use Rattle.std.specs.Prelude.{Result, Ok}
use Rattle.terms.specs.declared.Refusal.{Refusal}
use mathlib.Core.Path.{◌≡◌, sym, ap, subst, ◌∙◌}
use mathlib.Core.List.{List, [], ◌∷◌, ◌++◌, append-nil}
use Prim.Native.Nat.{ℕ, ◌+◌, ◌-◌, ◌*◌, ◌<◌}
use native.Mathlib.Omega.{arith}
use lib.ListN.{length, take, drop, length-append, length-drop, take-append-drop}
use lib.Seq.{length-take-le}
use Rattle.lists.specs.Rising.{Up}
use Rattle.terms.specs.Limits.{sizes_of}
use Rattle.table.specs.Store.{Store, store_of}
use Rattle.table.specs.Limits.{Limits}
use Rattle.table.specs.Reads.{reads}
use Rattle.table.proofs.Limits.{Holds as Roomy, room_holds}
use Rattle.judge.specs.Rules.{Accepted}
use Rattle.judge.specs.Check.{check_of}
use Rattle.judge_laws.proofs.Meaning.{accepted_good}
use Rattle.cone.specs.Rule.{cut}
use Rattle.cone.specs.Keys.{Cuttable}
use Rattle.cutting.specs.Rows.{rows_of}
use Rattle.cutting.proofs.Rows.{rows_length}
use Rattle.build.specs.Build.{Takes, built_of, table_by}
use Rattle.build.proofs.Laws.{good_cuttable}
use Rattle.build_laws.specs.Builds.{Builds, Accepted as Taken}
use Rattle.build_laws.proofs.Meaning.{answers, made_accepted}
use Rattle.theory_segments.specs.Seg.{Seg, Chain, Cutting}
use Rattle.theory_segments.specs.Cuts.{cut_segs}
use Rattle.theory_segments.proofs.Insert.{bare_chain, bare_reads}
use Rattle.theory_segments.proofs.Cuts.{length_segs_by, cutting, rows_cut}
use Rattle.theory_shown.specs.Shows.{Shown}
use Rattle.theory_shown.proofs.Shown.{shown_reads}
use Rattle.theory_shown.proofs.Accepts.{shown_accepted}
use Rattle.theory_kept.specs.After.{after, taken, insert_all}
use Rattle.theory_kept.proofs.Cells.{some_segs, bare_slots}
use Rattle.theory_kept.proofs.After.{after_reads}

-- segments that hold nothing, alone
bare_whole : (e b lo hi : ℕ) (ks : List ℕ) (new : List Seg) → Cutting e b ks new → Up lo hi ks → Chain e b lo hi new
bare_whole e b lo hi ks [] c u = tt
bare_whole e b lo hi ks (y ∷ ys) c u =
    subst (λ (l : List Seg). Chain e b lo hi l) (append-nil (y ∷ ys)) (bare_chain e b hi [] y ys lo c.fair c.bare (subst (λ (l : List ℕ). Up lo hi l) (sym c.whole) u) tt)

-- the store after a build that answered s
abbrev pub built_store : ℕ → ℕ → ℕ → ℕ → List ℕ → List ℕ → List ℕ → Store
built_store e b n s keys table buffers = store_of (sizes_of e b n s) keys (table_by (Ok s) e n keys table) buffers

module _ (e b n s : ℕ) (keys table buffers : List ℕ) (made : built_of e b n keys table buffers ≡ Ok s) where
  abbrev ks : List ℕ
  ks = take n keys

  abbrev new : List Seg
  new = cut_segs e ks

  abbrev σ : Store
  σ = built_store e b n s keys table buffers

  facts : Taken e b n keys table buffers s
  facts = made_accepted e b n keys table buffers s (subst (λ (a : Result ℕ Refusal). Builds e b n keys table buffers a) made (answers e b n keys table buffers))

  takes : Takes e b n keys
  takes = facts.sound.takes

  count : length (cut e ks) ≡ s
  count = sym facts.counts

  long : length ks ≡ n
  long = length-take-le n keys takes.held

  cuttable : Cuttable e ks
  cuttable = good_cuttable e keys n takes.sized.e_limit takes.sized.n_limit takes.held facts.sound.good

  is_cut : Cutting e b ks new
  is_cut = cutting e b ks (omega (arith, takes.sized.b_least)) cuttable

  pieces : length new ≡ s
  pieces = length_segs_by ks (cut e ks) ∙ count

  room : Roomy b s table buffers
  room = room_holds b s table buffers (omega (arith, takes.sized.b_least)) facts.room

  some_new : 0 < s
  some_new = some_segs new ks s is_cut.whole pieces (omega (arith, long, takes.sized.n_least))

  shown : Shown σ 0 0 new
  shown =
      record {
        count = omega (arith, pieces);
        total = omega (arith, ap length is_cut.whole, long);
        more = drop (5 * s) table;
        table = ap (λ (l : List ℕ). l ++ drop (5 * s) table) (rows_cut e ks 0);
        rest = drop n keys;
        keys = sym (take-append-drop n keys) ∙ ap (λ (l : List ℕ). l ++ drop n keys) (sym is_cut.whole);
        slots = bare_slots b new (drop (0 * b) buffers) is_cut.bare;
      }

  limits : Limits σ
  limits =
      let t : length (rows_of 0 (cut e ks) ++ drop (5 * s) table) ≡ 5 * length (cut e ks) + (length table - 5 * s) =
      length-append (rows_of 0 (cut e ks)) (drop (5 * s) table) ∙ omega (arith, rows_length 0 (cut e ks), length-drop (5 * s) table) in
      omega (arith, takes, room, some_new, t, count)

  -- A store that build made is accepted, and its reads are the n keys that were loaded.
  pub built_accepted : Accepted σ
  built_accepted = shown_accepted σ limits new shown (bare_whole e b _ _ ks new is_cut cuttable.rising)

  pub built_good : check_of σ ≡ Ok tt
  built_good = accepted_good σ built_accepted

  pub built_reads : reads σ ≡ take n keys
  built_reads = shown_reads σ new shown ∙ bare_reads new is_cut.bare ∙ is_cut.whole

  -- After any inserts into it, it reads as "all reads loaded and taken in".
  pub loaded_and_taken : (given : List ℕ) → reads (after σ given) ≡ insert_all (taken σ given) (take n keys)
  loaded_and_taken given = after_reads given σ built_accepted ∙ ap (insert_all (taken σ given)) built_reads
