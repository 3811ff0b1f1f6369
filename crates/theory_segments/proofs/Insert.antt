-- An insert over a list of segments: it puts other segments in the place of one, the list stays in order, and it reads as before with the key inserted.
-- Assumes nothing.
use mathlib.Core.Path.{◌≡◌, refl, sym, ap, subst, ◌∙◌}
use mathlib.Core.List.{List, [], ◌∷◌, ◌++◌, append-nil, append_assoc}
use mathlib.Core.Logic.{inl}
use Prim.Native.Nat.{ℕ, ◌+◌, ◌≤◌, ◌<◌}
use native.Mathlib.Omega.{arith}
use lib.ListN.{length, drop}
use lib.Seq.{drop-cons}
use Rattle.lists.specs.Rising.{Up, In}
use Rattle.lists.specs.Merge.{merge, insert_sorted}
use Rattle.lists.proofs.Rising.{in_up, up_append, up_below, up_from}
use Rattle.lists.proofs.Merging.{Split, merged_split, insert_after, insert_before, insert_up, length_insert, merge_insert, merge_none, in_merge_left}
use Rattle.theory_segments.specs.Seg.{Seg, Close, Fair, ceil, all_of, Chain, reads_of, runs_of, buffered, merged_list, Bare, Fairs, Cutting}

pub reads_append : (xs ys : List Seg) → reads_of (xs ++ ys) ≡ reads_of xs ++ reads_of ys
reads_append [] ys = refl
reads_append (x ∷ xs) ys = rw (reads_append xs ys) (sym (append_assoc (all_of x) (reads_of xs) (reads_of ys)))

pub runs_append : (xs ys : List Seg) → runs_of (xs ++ ys) ≡ runs_of xs ++ runs_of ys
runs_append [] ys = refl
runs_append (x ∷ xs) ys = rw (runs_append xs ys) (sym (append_assoc x.keys (runs_of xs) (runs_of ys)))

pub bare_reads : (xs : List Seg) → Bare xs → reads_of xs ≡ runs_of xs
bare_reads [] b = refl
bare_reads (x ∷ xs) b = rw (b.0, merge_none x.keys, bare_reads xs b.1) refl

module _ (e b : ℕ) where
  -- a segment's run starts with its first key
  pub fair_cons : (x : Seg) → Fair e b x → x.keys ≡ x.first ∷ drop 1 x.keys
  fair_cons x f = rw (← f.first) (drop-cons x.keys 0 0 f.some)

  pub first_in : (x : Seg) → Fair e b x → In x.first x.keys
  first_in x f = rw (fair_cons x f) (inl refl)

  module _ (hi : ℕ) where
    pub first_from : (x : Seg) (l h : ℕ) → Fair e b x → Up l h (all_of x) → (l ≤ x.first) × (x.first < h)
    first_from x l h f u =
        let s : Split l h x.keys x.used = merged_split l h x.keys x.used u in
        let v : Up l h (x.first ∷ drop 1 x.keys) = rw (fair_cons x f) at s.left in
        (v.0, v.1.0)

    pub ceil_most : (lo : ℕ) (xs : List Seg) → Chain e b lo hi xs → ceil hi xs ≤ hi
    ceil_most lo [] c = omega arith
    ceil_most lo (x ∷ xs) c = omega (arith, first_from x lo (ceil hi xs) c.0 c.1.0, ceil_most (ceil hi xs) xs c.1.1)

    -- the whole list rises
    pub chain_up : (lo : ℕ) (xs : List Seg) → Chain e b lo hi xs → Up lo hi (reads_of xs)
    chain_up lo [] c = tt
    chain_up lo (x ∷ xs) c =
        up_append lo (ceil hi xs) hi (all_of x) (reads_of xs) (omega (arith, first_from x lo (ceil hi xs) c.0 c.1.0))
        (ceil_most (ceil hi xs) xs c.1.1) c.1.0 (chain_up (ceil hi xs) xs c.1.1)

    -- segments that hold nothing, from their runs in one list
    pub bare_chain : (post : List Seg) (y : Seg) (ys : List Seg) (l : ℕ) → Fairs e b (y ∷ ys) → Bare (y ∷ ys) → Up l (ceil hi post) (runs_of (y ∷ ys)) → Chain e b (ceil hi post) hi post →
        Chain e b l hi ((y ∷ ys) ++ post)
    bare_chain post y [] l f n u c =
        let v : Up l (ceil hi post) y.keys = rw (append-nil y.keys) at u in
        let m : merge y.keys y.used ≡ y.keys = rw n.0 (merge_none y.keys) in
        (f.0, (rw m v, c))
    bare_chain post y (z ∷ zs) l f n u c =
        let v : Up l (ceil hi post) (y.keys ++ (z.first ∷ (drop 1 z.keys ++ runs_of zs))) = rw (fair_cons z f.1.0) at u in
        let w : Up z.first (ceil hi post) (z.first ∷ (drop 1 z.keys ++ runs_of zs)) = up_from l (ceil hi post) z.first y.keys (drop 1 z.keys ++ runs_of zs) v in
        let m : merge y.keys y.used ≡ y.keys = rw n.0 (merge_none y.keys) in
        (f.0, (rw m (up_below l (ceil hi post) z.first y.keys (drop 1 z.keys ++ runs_of zs) v), bare_chain post z zs z.first f.1 n.1 (rw (fair_cons z f.1.0) w) c))

    module _ (k : ℕ) (x : Seg) (post : List Seg) where
      ceil_first : (lo : ℕ) (pre : List Seg) → Chain e b lo hi (pre ++ (x ∷ post)) → ceil hi (pre ++ (x ∷ post)) ≤ x.first
      ceil_first lo [] c = omega arith
      ceil_first lo (p ∷ pre) c =
          omega (arith, first_from p lo (ceil hi (pre ++ (x ∷ post))) c.0 c.1.0, ceil_first (ceil hi (pre ++ (x ∷ post))) pre c.1.1)

      -- `new` may stand where x stands
      pub record Swap (new : List Seg) : Type 0 where
        pub chain : (l : ℕ) → l ≤ k → Chain e b l hi (x ∷ post) → Chain e b l hi (new ++ post)
        pub head : x.first ≤ k → Chain e b x.first hi (x ∷ post) → ceil hi (new ++ post) ≡ x.first
        pub reads : reads_of new ≡ insert_sorted k (all_of x)

      module _ (new : List Seg) (swap : Swap new) where
        same_ceil : (lo : ℕ) (pre : List Seg) → x.first ≤ k → Chain e b (ceil hi (pre ++ (x ∷ post))) hi (pre ++ (x ∷ post)) →
            ceil hi (pre ++ (new ++ post)) ≡ ceil hi (pre ++ (x ∷ post))
        same_ceil lo [] h c = swap.head h c
        same_ceil lo (p ∷ pre) h c = refl

        pub chain_spliced : (pre : List Seg) (lo : ℕ) → lo ≤ k → (0 < length pre → x.first ≤ k) → Chain e b lo hi (pre ++ (x ∷ post)) → Chain e b lo hi (pre ++ (new ++ post))
        chain_spliced [] lo l f c = swap.chain lo l c
        chain_spliced (p ∷ pre) lo l f c =
            let g : x.first ≤ k = f (omega arith) in
            let m : ℕ = ceil hi (pre ++ (x ∷ post)) in
            rw (same_ceil lo pre g c.1.1)
            (c.0, (c.1.0, chain_spliced pre m (omega (arith, ceil_first m pre c.1.1)) (λ z. g) c.1.1))

        pub reads_spliced : (pre : List Seg) (lo : ℕ) → (0 < length pre → x.first ≤ k) → k < ceil hi post → Chain e b lo hi (pre ++ (x ∷ post)) →
            reads_of (pre ++ (new ++ post)) ≡ insert_sorted k (reads_of (pre ++ (x ∷ post)))
        reads_spliced [] lo f below c =
            reads_append new post ∙ ap (λ (l : List ℕ). l ++ reads_of post) swap.reads
            ∙ sym (insert_before k (ceil hi post) hi (all_of x) (reads_of post) below (chain_up (ceil hi post) post c.1.1))
        reads_spliced (p ∷ pre) lo f below c =
            let g : x.first ≤ k = f (omega arith) in
            let m : ℕ = ceil hi (pre ++ (x ∷ post)) in
            ap (λ (l : List ℕ). all_of p ++ l) (reads_spliced pre m (λ z. g) below c.1.1)
            ∙ sym (insert_after k lo m (all_of p) (reads_of (pre ++ (x ∷ post))) (omega (arith, ceil_first m pre c.1.1)) c.1.0)

      -- ---- the two inserts

      module _ (below : k < ceil hi post) (other : In k (all_of x) → ⊥) where
        pub both_inserted : merge x.keys (insert_sorted k x.used) ≡ insert_sorted k (all_of x)
        both_inserted = merge_insert k x.keys x.used (λ i. other (in_merge_left k x.keys x.used i))

        up_inserted : (l : ℕ) → l ≤ k → Up l (ceil hi post) (all_of x) → Up l (ceil hi post) (merge x.keys (insert_sorted k x.used))
        up_inserted l h u = rw both_inserted (insert_up k l (ceil hi post) (all_of x) h below other u)

        buffered_fair : length x.used + 1 < b → Fair e b x → Fair e b (buffered k x)
        buffered_fair room f =
            record {
              first_small = f.first_small;
              run_some = f.run_some;
              run_small = f.run_small;
              rise_limit = f.rise_limit;
              some = f.some;
              first = f.first;
              held = omega (arith, length_insert k x.used);
              close = λ m h. let c : Close e x m = f.close m h in record { guessed = c.guessed; not_above = c.not_above; not_below = c.not_below };
            }

        pub buffered_swap : length x.used + 1 < b → Swap (buffered k x ∷ [])
        buffered_swap room =
            record {
              chain = λ l h c. (buffered_fair room c.0, (up_inserted l h c.1.0, c.1.1));
              head = λ h c. refl;
              reads = append-nil (merge x.keys (insert_sorted k x.used)) ∙ both_inserted;
            }

        first_cut : (new : List Seg) → Cutting e b (merged_list k x) new → Fair e b x → In x.first (runs_of new)
        first_cut new cut f = subst (λ (l : List ℕ). In x.first l) (sym cut.whole) (in_merge_left x.first x.keys (insert_sorted k x.used) (first_in x f))

        merged_chain : (new : List Seg) → Cutting e b (merged_list k x) new → (l : ℕ) → l ≤ k → Chain e b l hi (x ∷ post) → Chain e b l hi (new ++ post)
        merged_chain [] cut l h c = absurd (first_cut [] cut c.0)
        merged_chain (y ∷ ys) cut l h c = bare_chain post y ys l cut.fair cut.bare (rw cut.whole (up_inserted l h c.1.0)) c.1.1

        merged_head : (new : List Seg) → Cutting e b (merged_list k x) new → x.first ≤ k → Chain e b x.first hi (x ∷ post) → ceil hi (new ++ post) ≡ x.first
        merged_head [] cut h c = absurd (first_cut [] cut c.0)
        merged_head (y ∷ ys) cut h c =
            let u : Up x.first (ceil hi post) (runs_of (y ∷ ys)) = rw cut.whole (up_inserted x.first h c.1.0) in
            let v : Up x.first (ceil hi post) (y.first ∷ (drop 1 y.keys ++ runs_of ys)) = rw (fair_cons y cut.fair.0) at u in
            let i : In x.first (y.first ∷ (drop 1 y.keys ++ runs_of ys)) = rw (fair_cons y cut.fair.0) at (first_cut (y ∷ ys) cut c.0) in
            omega (arith, v.0, in_up y.first (ceil hi post) x.first (y.first ∷ (drop 1 y.keys ++ runs_of ys)) (omega arith, v.1) i)

        pub merged_swap : (new : List Seg) → Cutting e b (merged_list k x) new → Swap new
        merged_swap new cut =
            record {
              chain = merged_chain new cut;
              head = merged_head new cut;
              reads = bare_reads new cut.bare ∙ cut.whole ∙ both_inserted;
            }
