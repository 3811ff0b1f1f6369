-- Demand 1 for writing an image: its answer is the one that 01 describes, refusals exactly when and in the order its table says, and only that one.
-- Assumes nothing.
use Rattle.std.specs.Prelude.{Option, Some, None, Result, Ok, Err}
use Rattle.terms.specs.declared.Refusal.{Refusal}
use mathlib.Core.Path.{◌≡◌, refl, sym, ◌∙◌}
use mathlib.Core.Bool.{true, false}
use mathlib.Core.List.{List, [], ◌∷◌}
use Prim.Native.Nat.{ℕ, ◌+◌, ◌-◌, ◌*◌, ◌^◌, ◌≤◌, ◌<◌}
use native.Mathlib.Omega.{arith}
use lib.Dec.{leb, ltb}
use lib.ListN.{get_or}
use borrow.Author.Tests.{leb-true, leb-false, le-leb, lt-leb, ltb-true, ltb-false, lt-ltb}
use Rattle.terms.specs.declared.Refusal.TheVariants.{Limits as OutOfLimits, StoreWrong, OutRoom}
use Rattle.lists.specs.Tests.{pick}
use Rattle.lists.proofs.Tests.{either, clash, is_true, is_false, all_each, each_all}
use Rattle.scan.specs.Scan.{fails_of, none_of}
use Rattle.scan.specs.Meaning.{NoneIn, Scanned}
use Rattle.scan.proofs.Meaning.{fails_scanned, scanned_same, one_answer, passes, passing}
use Rattle.table.specs.Store.{Store}
use Rattle.table.specs.Limits.{Limits, limited_of}
use Rattle.table.specs.Entries.{entry_of}
use Rattle.table.proofs.Limits.{limited_true, true_limited}
use Rattle.image_records.specs.First.{first}
use Rattle.image_records.specs.Stores.{row_in}
use Rattle.image_records.proofs.Records.{fits_fit, fit_fits}
use Rattle.image_fits.specs.Fits.{fits_at, cells_fit, entry_tests, entry_fits, run_wrong, or_else, wrong_of}
use Rattle.image_write.specs.Writing.{length_of, fitted_of, judged_of, write_of}
use Rattle.image_laws.specs.Writing.{Writable, Entries, Run, bytes_of, Answers, written, refused_1, refused_9_entry, refused_9_run, refused_8}

-- ---- the tests as facts

abbrev six : List ℕ
six = 6 ∷ []

module _ (cells : List ℕ) where
  cell_small : (p : ℕ) → fits_at six cells p ≡ true → get_or cells p 0 < 256 ^ 6
  unfolding fits_at
  cell_small p h = (fits_fit six (get_or cells p 0 ∷ []) h).0

  small_cell : (p : ℕ) → get_or cells p 0 < 256 ^ 6 → fits_at six cells p ≡ true
  unfolding fits_at
  small_cell p h = fit_fits six (get_or cells p 0 ∷ []) (h, tt)

  cell_large : (p : ℕ) → fits_at six cells p ≡ false → 256 ^ 6 ≤ get_or cells p 0
  cell_large p h =
      either (ltb (get_or cells p 0) (256 ^ 6)) (λ t. clash (sym (small_cell p (ltb-true (get_or cells p 0) (256 ^ 6) t)) ∙ h)) (λ t. ltb-false (get_or cells p 0) (256 ^ 6) t)

  large_cell : (p : ℕ) → 256 ^ 6 ≤ get_or cells p 0 → fits_at six cells p ≡ false
  large_cell p h = is_false (fits_at six cells p) (λ t. let s : get_or cells p 0 < 256 ^ 6 = cell_small p t in omega arith)

  pub cells_small : (from to : ℕ) → cells_fit six cells from to ≡ true → (p : ℕ) → from ≤ p → p < to → get_or cells p 0 < 256 ^ 6
  cells_small from to h p a b = cell_small p (passes (fits_at six cells) from (to - from) h p a (omega arith))

  pub small_cells : (from to : ℕ) → from ≤ to → ((p : ℕ) → from ≤ p → p < to → get_or cells p 0 < 256 ^ 6) → cells_fit six cells from to ≡ true
  small_cells from to h each = passing (fits_at six cells) from (to - from) (λ q a b. small_cell q (each q a (omega arith)))

module _ (σ : Store) (i : ℕ) where
  pub entry_writable : entry_fits σ.b σ.table σ.buffers i ≡ true → Writable σ i
  unfolding entry_fits entry_of
  entry_writable h =
      let u : _ = all_each (entry_tests σ.b σ.table σ.buffers i) h in
      let f : _ = fits_fit first.segment.widths (row_in σ.table i) u.0 in
      record {
        first_fits = f.0;
        base_fits = f.1.0;
        rise_fits = f.1.1.0;
        run_fits = f.1.1.1.0;
        held_below = ltb-true (get_or σ.table (5 * i + 4) 0) σ.b u.1.0;
        slots_fit = λ j g.
            cells_small σ.buffers (i * σ.b) (i * σ.b + get_or σ.table (5 * i + 4) 0) u.1.1.0 (i * σ.b + j) (omega arith) (omega arith);
      }

  pub writable_entry : Limits σ → Writable σ i → entry_fits σ.b σ.table σ.buffers i ≡ true
  unfolding entry_fits entry_of
  writable_entry l w =
      let held : get_or σ.table (5 * i + 4) 0 < 256 ^ 1 = omega (arith, w.held_below, l.b_limit) in
      each_all (entry_tests σ.b σ.table σ.buffers i) (
        fit_fits first.segment.widths (row_in σ.table i) (w.first_fits, (w.base_fits, (w.rise_fits, (w.run_fits, (held, tt))))),
        (
          lt-ltb (get_or σ.table (5 * i + 4) 0) σ.b w.held_below,
          (
            small_cells σ.buffers (i * σ.b) (i * σ.b + get_or σ.table (5 * i + 4) 0) (omega arith)
                (λ p a b. let e : i * σ.b + (p - i * σ.b) ≡ p = omega arith in rw e at (w.slots_fit (p - i * σ.b) (omega arith))),
            tt,
          ),
        ),
      )

-- ---- the two scans

module _ (σ : Store) (room : ℕ) where
  abbrev entries : Option ℕ
  entries = fails_of (entry_fits σ.b σ.table σ.buffers) 0 (σ.s - 0)

  abbrev run : Option ℕ
  run = fails_of (fits_at six σ.keys) 0 (σ.n - 0)

  abbrev Wrong : ℕ → Type 0
  Wrong i = Writable σ i → ⊥

  abbrev Large : ℕ → Type 0
  Large p = 256 ^ 6 ≤ get_or σ.keys p 0

  entries_scanned : Limits σ → Scanned Wrong 0 σ.s entries
  entries_scanned l =
      let z : 0 + (σ.s - 0) ≡ σ.s = omega arith in
      scanned_same (λ q. entry_fits σ.b σ.table σ.buffers q ≡ false) Wrong 0 σ.s (λ q a b e w. clash (sym (writable_entry σ q l w) ∙ e))
      (λ q a b x. is_false (entry_fits σ.b σ.table σ.buffers q) (λ t. x (entry_writable σ q t))) entries
      (rw z at (fails_scanned (entry_fits σ.b σ.table σ.buffers) 0 (σ.s - 0)))

  run_scanned : Scanned Large 0 σ.n run
  run_scanned =
      let z : 0 + (σ.n - 0) ≡ σ.n = omega arith in
      scanned_same (λ q. fits_at six σ.keys q ≡ false) Large 0 σ.n (λ q a b e. cell_large σ.keys q e) (λ q a b h. large_cell σ.keys q h) run
      (rw z at (fails_scanned (fits_at six σ.keys) 0 (σ.n - 0)))

  -- none wrong, none large, as the meanings say it
  no_entry : NoneIn Wrong 0 σ.s → Limits σ → Entries σ
  no_entry v l i h =
      entry_writable σ i (is_true (entry_fits σ.b σ.table σ.buffers i) (λ t. v i (omega arith) h (λ w. clash (sym (writable_entry σ i l w) ∙ t))))

  no_key : NoneIn Large 0 σ.n → Run σ
  no_key v p h =
      either (ltb (get_or σ.keys p 0) (256 ^ 6)) (λ t. ltb-true (get_or σ.keys p 0) (256 ^ 6) t)
      (λ t. absurd (v p (omega arith) h (ltb-false (get_or σ.keys p 0) (256 ^ 6) t)))

  long : length_of σ ≡ bytes_of σ
  unfolding length_of
  long = refl

  -- the answer, by what the two scans find
  abbrev answer : Option ℕ → Option ℕ → Result ℕ Refusal
  answer f g = judged_of (or_else f (pick (none_of g) None (Some σ.s))) (length_of σ) room

  fitted_answers : Limits σ → Entries σ → Run σ → Answers σ room (fitted_of (length_of σ) room)
  unfolding fitted_of
  fitted_answers l e r =
      either (leb (length_of σ) room)
      (λ t. let h : length_of σ ≤ room = leb-true (length_of σ) room t in simp t (rw long (written l e r (rw long at h))))
      (λ t. let h : room < length_of σ = leb-false (length_of σ) room t in simp t (refused_8 l e r (rw long at h)))

  scan_answers : Limits σ → (f g : Option ℕ) → Scanned Wrong 0 σ.s f → Scanned Large 0 σ.n g → Answers σ room (answer f g)
  scan_answers l (Some i) g v w = refused_9_entry l v
  scan_answers l None (Some p) v w = refused_9_run l (no_entry v l) w.below w.holds
  scan_answers l None None v w = fitted_answers l (no_entry v l) (no_key w)

  limited_is : limited_of σ ≡ true → answer entries run ≡ write_of σ room
  unfolding write_of wrong_of run_wrong
  limited_is t = simp t

  unlimited_is : limited_of σ ≡ false → Err OutOfLimits ≡ write_of σ room
  unfolding write_of
  unlimited_is t = simp t

  -- Writing's answer means what it should.
  pub write_answers : Answers σ room (write_of σ room)
  write_answers =
      either (limited_of σ)
      (λ t. let l : Limits σ = limited_true σ t in rw (sym (limited_is t)) (scan_answers l entries run (entries_scanned l) run_scanned))
      (λ t. rw (sym (unlimited_is t)) (refused_1 (λ l. clash (sym (true_limited σ l) ∙ t))))

  -- ---- and nothing else does

  found : Limits σ → (f g : Option ℕ) → Scanned Wrong 0 σ.s f → Scanned Large 0 σ.n g → answer f g ≡ write_of σ room
  found l f g v w =
      let p : f ≡ entries = one_answer Wrong 0 σ.s f entries v (entries_scanned l) in
      let q : g ≡ run = one_answer Large 0 σ.n g run w run_scanned in
      rw (p, q) (limited_is (true_limited σ l))

  none_wrong : Entries σ → NoneIn Wrong 0 σ.s
  none_wrong e q a b x = x (e q b)

  none_large : Run σ → NoneIn Large 0 σ.n
  none_large r q a b x = let h : get_or σ.keys q 0 < 256 ^ 6 = r q b in omega arith

  run_found : (p : ℕ) → p < σ.n → Large p → (g : Option ℕ) → Scanned Large 0 σ.n g → answer None g ≡ Err (StoreWrong σ.s)
  run_found p h x (Some q) w = refl
  run_found p h x None w = absurd (w p (omega arith) h x)

  fits_out : bytes_of σ ≤ room → Ok (bytes_of σ) ≡ fitted_of (length_of σ) room
  unfolding fitted_of
  fits_out h = rw long (simp (le-leb (bytes_of σ) room h))

  no_room : room < bytes_of σ → Err OutRoom ≡ fitted_of (length_of σ) room
  unfolding fitted_of
  no_room h = rw long (simp (lt-leb (bytes_of σ) room h))

  -- An answer that means what it should is writing's.
  pub write_only : (a : Result ℕ Refusal) → Answers σ room a → a ≡ write_of σ room
  write_only a (written l e r h) = fits_out h ∙ found l None None (none_wrong e) (none_large r)
  write_only a (refused_1 x) = either (limited_of σ) (λ t. absurd (x (limited_true σ t))) (λ t. unlimited_is t)
  write_only a (refused_9_entry {i} l v) = found l (Some i) run v run_scanned
  write_only a (refused_9_run {p} l e h x) = sym (run_found p h x run run_scanned) ∙ found l None run (none_wrong e) run_scanned
  write_only a (refused_8 l e r h) = no_room h ∙ found l None None (none_wrong e) (none_large r)
