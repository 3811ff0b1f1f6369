-- Demand 1 for reading an image: its answer is the one that 01 describes, refusals exactly when and in the order its table says, and only that one.
-- Assumes nothing.
use Rattle.std.specs.Prelude.{Result, Ok, Err}
use Rattle.terms.specs.declared.Refusal.{Refusal}
use mathlib.Core.Path.{◌≡◌, refl, sym, ap, ◌∙◌}
use mathlib.Core.Bool.{true, false}
use mathlib.Core.List.{List}
use Prim.Native.Nat.{ℕ, ◌≤◌, ◌<◌}
use borrow.Author.Tests.{leb-true, leb-false, le-leb, lt-leb}
use Rattle.terms.specs.declared.Sizes.{Sizes}
use Rattle.terms.specs.declared.Refusal.TheVariants.{Limits as OutOfLimits, KeyRoom, SegmentRoom, Malformed}
use Rattle.lists.proofs.Tests.{either, clash, is_false}
use Rattle.table.specs.Limits.{Counted, counted_of, key_room, segment_room}
use Rattle.table.proofs.Limits.{counted_true, true_counted}
use Rattle.image_records.specs.Records.{total, stands_at, kind_of}
use Rattle.image_records.specs.Images.{layout_of, rest_of}
use Rattle.image_records.specs.Meaning.{Rest}
use Rattle.image_records.specs.First.{first}
use Rattle.image_records.proofs.Records.{stands_true, true_stands}
use Rattle.image_records.proofs.Meaning.{rest_is, rest_one}
use Rattle.image_judge.specs.Judging.{sizes_at, answer_of, headed_of, judged_of}
use Rattle.image_read.specs.Loading.{keys_held, segments_held, roomed_of, after_judged, load_of}
use Rattle.image_laws.specs.Reading.{Head, e_in, b_in, n_in, s_in, Headed, Formed, Faulty, Answers, taken, refused_10_head, refused_1, refused_10, refused_6, refused_7}

-- ---- what the judging pass says, by what stands

module _ (l : List ℕ) where
  abbrev walked : Result ℕ ℕ
  walked = rest_of (layout_of first) l (b_in l) (n_in l) (s_in l) 9

  walked_is : Rest (layout_of first) l (b_in l) (n_in l) (s_in l) 9 walked
  walked_is = rest_is (layout_of first) l (b_in l) (n_in l) (s_in l) 9

  judged_head : (Head l → ⊥) → judged_of (layout_of first) l ≡ Err (Malformed 0)
  unfolding judged_of
  judged_head x =
      let t : stands_at (kind_of first.head) l 0 ≡ false = is_false (stands_at (kind_of first.head) l 0) (λ e. x (stands_true (kind_of first.head) l 0 e)) in
      simp t

  judged_limits : Head l → (Counted (e_in l) (b_in l) (n_in l) (s_in l) → ⊥) → judged_of (layout_of first) l ≡ Err OutOfLimits
  unfolding judged_of headed_of
  judged_limits h x =
      let c : counted_of (e_in l) (b_in l) (n_in l) (s_in l) ≡ false = is_false (counted_of (e_in l) (b_in l) (n_in l) (s_in l)) (λ e. x (counted_true (e_in l) (b_in l) (n_in l) (s_in l) e)) in
      simp (true_stands (kind_of first.head) l 0 h, c)

  judged_rest : Headed l → (w : Result ℕ ℕ) → walked ≡ w → judged_of (layout_of first) l ≡ answer_of (sizes_at l) w
  unfolding judged_of headed_of total
  judged_rest h w e =
      simp (true_stands (kind_of first.head) l 0 h.head, true_counted (e_in l) (b_in l) (n_in l) (s_in l) h.counted) (ap (answer_of (sizes_at l)) e)

  judged_formed : Formed l → judged_of (layout_of first) l ≡ Ok (sizes_at l)
  judged_formed g = judged_rest g.headed (Ok g.last) (rest_one (layout_of first) l (b_in l) (n_in l) (s_in l) 9 walked (Ok g.last) walked_is g.rest)

  judged_faulty : (p : ℕ) → Headed l → Faulty l p → judged_of (layout_of first) l ≡ Err (Malformed p)
  judged_faulty p h g = judged_rest h (Err p) (rest_one (layout_of first) l (b_in l) (n_in l) (s_in l) 9 walked (Err p) walked_is g)

-- ---- and the rooms

module _ (l keys t bs : List ℕ) where
  keys_true : (n : ℕ) → keys_held n keys ≡ true → n ≤ key_room keys
  unfolding keys_held
  keys_true n h = leb-true n (key_room keys) h

  keys_false : (n : ℕ) → keys_held n keys ≡ false → key_room keys < n
  unfolding keys_held
  keys_false n h = leb-false n (key_room keys) h

  true_keys : (n : ℕ) → n ≤ key_room keys → keys_held n keys ≡ true
  unfolding keys_held
  true_keys n h = le-leb n (key_room keys) h

  false_keys : (n : ℕ) → key_room keys < n → keys_held n keys ≡ false
  unfolding keys_held
  false_keys n h = lt-leb n (key_room keys) h

  segments_true : (b s : ℕ) → segments_held b s t bs ≡ true → s ≤ segment_room b t bs
  unfolding segments_held
  segments_true b s h = leb-true s (segment_room b t bs) h

  segments_false : (b s : ℕ) → segments_held b s t bs ≡ false → segment_room b t bs < s
  unfolding segments_held
  segments_false b s h = leb-false s (segment_room b t bs) h

  true_segments : (b s : ℕ) → s ≤ segment_room b t bs → segments_held b s t bs ≡ true
  unfolding segments_held
  true_segments b s h = le-leb s (segment_room b t bs) h

  false_segments : (b s : ℕ) → segment_room b t bs < s → segments_held b s t bs ≡ false
  unfolding segments_held
  false_segments b s h = lt-leb s (segment_room b t bs) h

  load_is : (w : Result Sizes Refusal) → judged_of (layout_of first) l ≡ w → after_judged w keys t bs ≡ load_of l keys t bs
  unfolding load_of
  load_is w e = ap (λ (x : Result Sizes Refusal). after_judged x keys t bs) (sym e)

  -- ---- the answer has its meaning

  formed_answers : Formed l → Answers l keys t bs (roomed_of (sizes_at l) keys t bs)
  unfolding roomed_of
  formed_answers g =
      either (keys_held (n_in l) keys)
      (λ x. either (segments_held (b_in l) (s_in l) t bs) (λ y. simp (x, y) (taken g (keys_true (n_in l) x) (segments_true (b_in l) (s_in l) y)))
      (λ y. simp (x, y) (refused_7 g (keys_true (n_in l) x) (segments_false (b_in l) (s_in l) y))))
      (λ x. simp x (refused_6 g (keys_false (n_in l) x)))

  walked_answers : Headed l → (w : Result ℕ ℕ) → Rest (layout_of first) l (b_in l) (n_in l) (s_in l) 9 w → Answers l keys t bs (after_judged (answer_of (sizes_at l) w) keys t bs)
  walked_answers h (Ok z) r = formed_answers (record { headed = h; last = z; rest = r })
  walked_answers h (Err p) r = refused_10 h r

  -- Reading's answer means what it should.
  pub read_answers : Answers l keys t bs (load_of l keys t bs)
  read_answers =
      either (stands_at (kind_of first.head) l 0)
      (λ x.
      let h : Head l = stands_true (kind_of first.head) l 0 x in
      either (counted_of (e_in l) (b_in l) (n_in l) (s_in l))
      (λ y.
      let g : Headed l = record { head = h; counted = counted_true (e_in l) (b_in l) (n_in l) (s_in l) y } in
      rw (sym (load_is (answer_of (sizes_at l) (walked l)) (judged_rest l g (walked l) refl))) (walked_answers g (walked l) (walked_is l)))
      (λ y.
      let c : Counted (e_in l) (b_in l) (n_in l) (s_in l) → ⊥ = λ k. clash (sym (true_counted (e_in l) (b_in l) (n_in l) (s_in l) k) ∙ y) in
      rw (sym (load_is (Err OutOfLimits) (judged_limits l h c))) (refused_1 h c)))
      (λ x.
      let n : Head l → ⊥ = λ h. clash (sym (true_stands (kind_of first.head) l 0 h) ∙ x) in
      rw (sym (load_is (Err (Malformed 0)) (judged_head l n))) (refused_10_head n))

  -- ---- and nothing else does

  formed_loads : Formed l → {a : Result Sizes Refusal} → a ≡ roomed_of (sizes_at l) keys t bs → a ≡ load_of l keys t bs
  formed_loads g e = e ∙ load_is (Ok (sizes_at l)) (judged_formed l g)

  roomed_store : (z : Sizes) → z.n ≤ key_room keys → z.s ≤ segment_room z.b t bs → Ok z ≡ roomed_of z keys t bs
  unfolding roomed_of
  roomed_store z x y = simp (true_keys z.n x, true_segments z.b z.s y)

  roomed_keys : (z : Sizes) → key_room keys < z.n → Err KeyRoom ≡ roomed_of z keys t bs
  unfolding roomed_of
  roomed_keys z x = simp (false_keys z.n x)

  roomed_segments : (z : Sizes) → z.n ≤ key_room keys → segment_room z.b t bs < z.s → Err SegmentRoom ≡ roomed_of z keys t bs
  unfolding roomed_of
  roomed_segments z x y = simp (true_keys z.n x, false_segments z.b z.s y)

  -- An answer that means what it should is reading's.
  pub read_only : (a : Result Sizes Refusal) → Answers l keys t bs a → a ≡ load_of l keys t bs
  read_only a (taken g x y) = formed_loads g (roomed_store (sizes_at l) x y)
  read_only a (refused_10_head x) = load_is (Err (Malformed 0)) (judged_head l x)
  read_only a (refused_1 h x) = load_is (Err OutOfLimits) (judged_limits l h x)
  read_only a (refused_10 {p} h x) = load_is (Err (Malformed p)) (judged_faulty l p h x)
  read_only a (refused_6 g x) = formed_loads g (roomed_keys (sizes_at l) x)
  read_only a (refused_7 g x y) = formed_loads g (roomed_segments (sizes_at l) x y)
