-- An accepted store shows its own segments, and they are in order.
-- Assumes nothing.
use mathlib.Core.Path.{◌≡◌, refl, sym, ap, subst, ◌∙◌}
use mathlib.Core.List.{List, [], ◌∷◌, ◌++◌, append_assoc}
use Prim.Native.Nat.{ℕ, zero, suc, ◌+◌, ◌-◌, ◌*◌, ◌≤◌, ◌<◌}
use native.Mathlib.Nat.{add-zero}
use native.Mathlib.Omega.{arith}
use lib.ListN.{length, get_or, take, drop, length-append, length-drop, take-append-drop}
use lib.Seq.{get_or-drop, drop-drop}
use Rattle.lists.specs.Rising.{Up, In}
use Rattle.lists.proofs.Rising.{up_within}
use Rattle.terms.specs.Limits.{key_limit, key_of}
use Rattle.table.specs.Store.{Store, sizes_in, in_use}
use Rattle.table.specs.Entries.{entry_of, entry_in, run_in, used_in}
use Rattle.table.specs.Reads.{merged_in}
use Rattle.segment.specs.Lent.{Lent}
use Rattle.segment.proofs.Laws.{lent}
use Rattle.line.specs.Meaning.{Near}
use Rattle.judge.specs.Rules.{Rules, Accepted}
use Rattle.judge_laws.proofs.Bridge.{run_at}
use Rattle.judge_laws.proofs.Covered.{end_next, end_last}
use Rattle.judge_laws.proofs.Segments.{held_from, held_below, held_key}
use Rattle.theory_segments.specs.Seg.{Close, Fair, ceil, all_of, Chain, runs_of}
use Rattle.theory_shown.specs.Shows.{seg_of, segs_from, segments, Shown}

pub first_of_seg : (σ : Store) (i : ℕ) → (seg_of σ i).first ≡ (entry_in σ i).first.0
unfolding seg_of
first_of_seg σ i = refl

pub all_of_lem : (σ : Store) (i : ℕ) → all_of (seg_of σ i) ≡ merged_in σ i
unfolding seg_of
all_of_lem σ i = refl

pub length_segs : (σ : Store) (c i : ℕ) → length (segs_from σ i c) ≡ c
length_segs σ zero i = refl
length_segs σ (suc c) i = ap suc (length_segs σ c (suc i))

pub segs_split : (σ : Store) (a c j : ℕ) → segs_from σ j (a + c) ≡ segs_from σ j a ++ segs_from σ (j + a) c
segs_split σ zero c j =
    let e : 0 + c ≡ c = omega arith in
    let f : j ≡ j + 0 = omega arith in
    ap (λ (m : ℕ). segs_from σ j m) e ∙ ap (λ (m : ℕ). segs_from σ m c) f
segs_split σ (suc a) c j =
    let e : suc a + c ≡ suc (a + c) = omega arith in
    let f : suc j + a ≡ j + suc a = omega arith in
    ap (λ (m : ℕ). segs_from σ j m) e ∙ ap (λ (l : List _). seg_of σ j ∷ l) (segs_split σ a c (suc j) ∙ ap (λ (m : ℕ). segs_from σ (suc j) a ++ segs_from σ m c) f)

module _ (σ : Store) (ok : Accepted σ) where
  module _ (i : ℕ) (inside : i < σ.s) where
    abbrev size : ℕ
    size = (entry_in σ i).end.0 - (entry_in σ i).base.0

    rules : Rules σ i
    rules = ok.rules i inside

    lent_here : Lent (entry_in σ i) (run_in σ i) (used_in σ i)
    lent_here = lent (sizes_in σ) σ.keys σ.table σ.buffers ok.limits i (entry_in σ i) inside rules.sound refl refl

    pub length_run : length (run_in σ i) ≡ size
    length_run = lent_here.run_whole

    pub length_used : length (used_in σ i) ≡ (entry_in σ i).held
    length_used = lent_here.used_whole

    close : (m : ℕ) → m < size → Close (in_use σ) (seg_of σ i) m
    unfolding seg_of
    close m h =
        let n : Near (in_use σ) (entry_in σ i) (key_of (get_or σ.keys ((entry_in σ i).base.0 + m) 0)) ((entry_in σ i).base.0 + m) =
        rules.windows ((entry_in σ i).base.0 + m) (omega arith) (omega arith) in
        let e : get_or (seg_of σ i).keys m 0 ≡ get_or σ.keys ((entry_in σ i).base.0 + m) 0 = run_at σ i m h in
        record { guessed = rw e n.guessed; not_above = rw e (omega (arith, n.not_above)); not_below = rw e (omega (arith, n.not_below)) }

    fair : Fair (in_use σ) σ.b (seg_of σ i)
    unfolding seg_of
    fair =
        record {
          first_small = rules.sound.first_small;
          run_some = rules.sound.run_some;
          run_small = rules.sound.run_small;
          rise_limit = rules.sound.rise_limit;
          some = omega (arith, length_run, rules.sound.some);
          first = run_at σ i 0 (omega (arith, rules.sound.some)) ∙ ap (λ (m : ℕ). get_or σ.keys m 0) (add-zero (entry_in σ i).base.0) ∙ rules.first;
          held = omega (arith, length_used, rules.sound.held_below);
          close = λ m h. close m (omega (arith, length_run));
        }

  -- ---- in order

  -- the keys of segment i are below what comes after it
  pub below_ceil : (c i : ℕ) → i + suc c ≡ σ.s → (k : ℕ) → In k (merged_in σ i) → k < ceil key_limit (segs_from σ (suc i) c)
  below_ceil zero i e k j = held_key σ ok i (omega arith) k j
  below_ceil (suc c) i e k j =
      let n : i + 1 ≡ suc i = omega arith in
      let b : k < (entry_in σ (suc i)).first.0 = rw n at (held_below σ ok i (omega arith) (omega arith) k j) in
      rw (first_of_seg σ (suc i)) b

  -- and none is below the first key of a later segment
  low_next : (c i : ℕ) → suc i + c ≡ σ.s → suc i < σ.s → (k : ℕ) → In k (merged_in σ (suc i)) → ceil key_limit (segs_from σ (suc i) c) ≤ k
  low_next zero i e h = absurd (omega arith)
  low_next (suc c) i e h = rw (first_of_seg σ (suc i)) (held_from σ ok (suc i) h (omega arith))

  chain_from : (c i lo : ℕ) → i + c ≡ σ.s → (i < σ.s → (k : ℕ) → In k (merged_in σ i) → lo ≤ k) → Chain (in_use σ) σ.b lo key_limit (segs_from σ i c)
  chain_from zero i lo e low = tt
  chain_from (suc c) i lo e low =
      let h : i < σ.s = omega arith in
      let top : ℕ = ceil key_limit (segs_from σ (suc i) c) in
      let u : Up lo top (merged_in σ i) = up_within 0 key_limit lo top (merged_in σ i) (ok.rules i h).rising (low h) (below_ceil c i e) in
      (fair i h, (rw (all_of_lem σ i) u, chain_from c (suc i) top (omega arith) (low_next c i (omega arith))))

  pub accepted_chain : Chain (in_use σ) σ.b 0 key_limit (segments σ)
  accepted_chain = chain_from σ.s 0 0 (omega arith) (λ h k j. omega arith)

  -- ---- shown

  five : (l : List ℕ) → 5 ≤ length l → l ≡ get_or l 0 0 ∷ (get_or l 1 0 ∷ (get_or l 2 0 ∷ (get_or l 3 0 ∷ (get_or l 4 0 ∷ drop 5 l))))
  five [] h = absurd (omega arith)
  five (a ∷ []) h = absurd (omega arith)
  five (a ∷ (b ∷ [])) h = absurd (omega arith)
  five (a ∷ (b ∷ (c ∷ []))) h = absurd (omega arith)
  five (a ∷ (b ∷ (c ∷ (d ∷ [])))) h = absurd (omega arith)
  five (a ∷ (b ∷ (c ∷ (d ∷ (e ∷ l))))) h = refl

  module _ (i : ℕ) (h : i < σ.s) where
    row_of : (at : ℕ) → at ≡ (entry_in σ i).base.0 → drop (5 * i) σ.table ≡
        (seg_of σ i).first ∷ (at ∷ ((seg_of σ i).rise ∷ ((seg_of σ i).run ∷ (length (seg_of σ i).used ∷ drop (5 * suc i) σ.table))))
    unfolding seg_of entry_of
    row_of at q =
        let t : List ℕ = σ.table in
        let e : 5 * suc i ≡ 5 * i + 5 = omega arith in
        let z : 5 * i + 0 ≡ 5 * i = omega arith in
        let f : get_or (drop (5 * i) t) 0 0 ≡ get_or t (5 * i) 0 = get_or-drop (5 * i) t 0 0 ∙ ap (λ (m : ℕ). get_or t m 0) z in
        five (drop (5 * i) t) (omega (arith, ok.limits, length-drop (5 * i) t))
        ∙ rw (f, get_or-drop (5 * i) t 1 0, get_or-drop (5 * i) t 2 0, get_or-drop (5 * i) t 3 0, get_or-drop (5 * i) t 4 0, drop-drop 5 (5 * i) t, length_used i h, e, q) refl

    keys_of : (at : ℕ) → at ≡ (entry_in σ i).base.0 → drop at σ.keys ≡ (seg_of σ i).keys ++ drop (at + length (seg_of σ i).keys) σ.keys
    unfolding seg_of
    keys_of at q = rw (q, length_run i h, ← drop-drop (size i h) (entry_in σ i).base.0 σ.keys) (sym (take-append-drop (size i h) (drop (entry_in σ i).base.0 σ.keys)))

    used_of : take (length (seg_of σ i).used) (drop (i * σ.b) σ.buffers) ≡ (seg_of σ i).used
    unfolding seg_of
    used_of = rw (length_used i h) refl

    next_base : suc i < σ.s → (entry_in σ i).end.0 ≡ (entry_in σ (suc i)).base.0
    next_base g = let n : i + 1 ≡ suc i = omega arith in subst (λ (m : ℕ). (entry_in σ i).end.0 ≡ (entry_in σ m).base.0) n (end_next σ i (omega arith))

    last_end : suc i ≡ σ.s → (entry_in σ i).end.0 ≡ σ.n
    last_end g = end_last σ i (omega arith)

    past : (at : ℕ) → at ≡ (entry_in σ i).base.0 → at + length (seg_of σ i).keys ≡ (entry_in σ i).end.0
    unfolding seg_of
    past at q = omega (arith, length_run i h, (rules i h).sound.some)

  shown_from : (c i at : ℕ) → i + c ≡ σ.s → (i < σ.s → at ≡ (entry_in σ i).base.0) → (i ≡ σ.s → at ≡ σ.n) → Shown σ i at (segs_from σ i c)
  shown_from zero i at e here last =
      record {
        count = e;
        total = omega (arith, last (omega arith));
        more = drop (5 * i) σ.table;
        table = refl;
        rest = drop at σ.keys;
        keys = refl;
        slots = tt;
      }
  shown_from (suc c) i at e here last =
      step (omega arith) (shown_from c (suc i) (at + length (seg_of σ i).keys) (omega arith) (λ g. past i (omega arith) at (here (omega arith)) ∙ next_base i (omega arith) g)
      (λ g. past i (omega arith) at (here (omega arith)) ∙ last_end i (omega arith) g))
    where
      step : i < σ.s → Shown σ (suc i) (at + length (seg_of σ i).keys) (segs_from σ (suc i) c) → Shown σ i at (segs_from σ i (suc c))
      step h r =
          let n : i * σ.b + σ.b ≡ suc i * σ.b = omega arith in
          record {
            count = omega (arith, length_segs σ c (suc i));
            total = omega (arith, r.total, length-append (seg_of σ i).keys (runs_of (segs_from σ (suc i) c)));
            more = r.more;
            table = row_of i h at (here h) ∙ rw r.table refl;
            rest = r.rest;
            keys = keys_of i h at (here h) ∙ ap (λ (l : List ℕ). (seg_of σ i).keys ++ l) r.keys ∙ sym (append_assoc (seg_of σ i).keys (runs_of (segs_from σ (suc i) c)) r.rest);
            slots = (used_of i h, rw (drop-drop σ.b (i * σ.b) σ.buffers, n) r.slots);
          }

  pub accepted_shown : Shown σ 0 0 (segments σ)
  accepted_shown = shown_from σ.s 0 0 (omega arith) (λ h. sym ((ok.rules 0 h).nought refl)) (λ e. absurd (omega (arith, ok.limits.s_least)))
