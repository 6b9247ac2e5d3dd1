-- The stages of numbers from index p on: what they give at index q of the part is what they give at p + q of the whole.
use mathlib.Core.Path.{◌≡◌, refl, sym, ap, ap₂, subst, ◌∙◌, fun_ext}
use mathlib.Core.Bool.{Bool, true, ◌&&◌}
use mathlib.Core.List.{List, [], ◌∷◌}
use Prim.Native.Nat.{ℕ, ◌+◌, ◌*◌, ◌-◌, ◌^◌, ◌≤◌}
use native.Mathlib.Omega.{arith}
use lib.Dec.{ltb}
use lib.IntN.{ℤ, pos}
use lib.ListN.{length, length-take, length-drop}
use Rattle.arith.specs.Choice.{pick, all}
use Rattle.arith.specs.Int.{Rounding, divides}
use Rattle.lattice.specs.Buffer.{at}
use Rattle.hermite.specs.declared.Rounded.{Rounded}
use Rattle.hermite.specs.Stage.{weighted, load, shift_of}
use Rattle.evaluate.specs.declared.Axis.{Axis}
use Rattle.evaluate.specs.declared.Strides.{Strides}
use Rattle.evaluate.specs.Stages.{numbers_at, place_of, later, sum_at, worked, cleanly, after, clean_after, Safe, Workable, WorkedOff, Reports}
use Rattle.evaluate.proofs.EndLaws.{part, part_at}

-- f is the part of g from p on
abbrev PartOf : {A : Type 0} → ℕ → (ℕ → A) → (ℕ → A) → Type 0
PartOf p f g = (i : ℕ) → f i ≡ g (p + i)

module _ (p : ℕ) where
  moved : {A : Type 0} (f g : ℕ → A) → PartOf p f g → (q i : ℕ) → f (q + i) ≡ g (p + q + i)
  moved f g same q i = same (q + i) ∙ ap g (omega arith)

  moved-node : {A : Type 0} (f g : ℕ → A) → PartOf p f g → (q n i : ℕ) → f (q + n + i) ≡ g (p + q + n + i)
  moved-node f g same q n i = same (q + n + i) ∙ ap g (omega arith)

  sum-part : (x : Axis) (f g : ℕ → ℤ) → PartOf p f g → PartOf p (sum_at x f) (sum_at x g)
  unfolding sum_at
  sum-part x f g same q =
      ap₂ (weighted x.basis) (fun_ext (λ o. moved f g same q (o * x.order)))
      (fun_ext (λ o. moved-node f g same q x.node (o * x.order)))

  worked-part : (round : Rounding) (k : ℕ) (x : Axis) (f g : ℕ → ℤ) → PartOf p f g → PartOf p (worked round k x f) (worked round k x g)
  unfolding worked
  worked-part round k x f g same q = ap (λ z. round z (2 ^ (k + 1))) (sum-part x f g same q)

  clean-part : (m k : ℕ) (x : Axis) (f g : ℕ → ℤ) → PartOf p f g → (c d : ℕ → Bool) → PartOf p c d
      → PartOf p (cleanly m k x f c) (cleanly m k x g d)
  unfolding cleanly
  clean-part m k x f g same c d marks q =
      ap₂ ◌&&◌ (ap (divides (2 ^ (k + 1))) (sum-part x f g same q))
      (ap (all (2 * m)) (fun_ext (λ t. moved c d marks q (place_of m x.order x.node t))))

  module _ (round : Rounding) (m : ℕ) (f g : ℕ → ℤ) (same : PartOf p f g) where
    after-part : (xs : List Axis) → PartOf p (after round m xs f) (after round m xs g)
    unfolding after
    after-part [] = same
    after-part (x ∷ xs) =
        worked-part round (shift_of 0 m (later xs) true) x (after round m xs f) (after round m xs g) (after-part xs)

    marks-part : (xs : List Axis) → PartOf p (clean_after round m xs f) (clean_after round m xs g)
    unfolding clean_after
    marks-part [] = λ q. refl
    marks-part (x ∷ xs) =
        clean-part m (shift_of 0 m (later xs) true) x (after round m xs f) (after round m xs g) (after-part xs) (clean_after round m xs f)
        (clean_after round m xs g) (marks-part xs)

    load_part : (x : Axis) (xs : List Axis) (q : ℕ)
        → load x.basis (numbers_at m (after round m xs f) q x.order) (numbers_at m (after round m xs f) (q + x.node) x.order)
        ≡ load x.basis (numbers_at m (after round m xs g) (p + q) x.order)
        (numbers_at m (after round m xs g) (p + q + x.node) x.order)
    unfolding numbers_at
    load_part x xs q =
        let h = after-part xs in
        ap₂ (load x.basis)
        (fun_ext (λ o. ap (λ z. pick (ltb o m) z (pos 0)) (moved (after round m xs f) (after round m xs g) h q (o * x.order))))
        (fun_ext (λ o. ap (λ z. pick (ltb o m) z (pos 0))
        (moved-node (after round m xs f) (after round m xs g) h q x.node (o * x.order))))

    safe-part : (n : ℕ) (xs : List Axis) (q : ℕ) → Safe round m (p + n) xs g (p + q) → Safe round m n xs f q
    safe-part n [] q h = omega arith
    safe-part n (x ∷ xs) q h = (
      λ o l. (
        safe-part n xs (q + o * x.order) (subst (Safe round m (p + n) xs g) (omega arith) (h.0 o l).0),
        safe-part n xs (q + x.node + o * x.order) (subst (Safe round m (p + n) xs g) (omega arith) (h.0 o l).1),
      ),
      subst (λ (k : ℕ). k ≤ 2 ^ 63 - 2 ^ 45) (sym (load_part x xs q)) h.1,
    )

-- the numbers of a list from index p on
module _ {round : Rounding} {m order : ℕ} {b : Strides} {rest : List Strides} (xs : List ℤ) (p : ℕ) where
  pub workable-part : p ≤ length xs → Workable round m order b rest (length xs) (at xs) p
      → Workable round m order b rest (length (part xs p)) (at (part xs p)) 0
  workable-part l h =
      let e : p + length (part xs p) ≡ length xs = simp (length-take, length-drop) (omega arith) in
      record {
        smooth = h.smooth;
        m-low = h.m-low;
        m-high = h.m-high;
        steps-in = h.steps-in;
        safe = λ z ys i j. safe-part p round m (at (part xs p)) (at xs) (part_at xs p) (length (part xs p)) (z ∷ ys) 0
            (subst (λ (n : ℕ). Safe round m n (z ∷ ys) (at xs) (p + 0)) (sym e)
            (subst (Safe round m (length xs) (z ∷ ys) (at xs)) (omega arith) (h.safe z ys i j)));
      }

  pub worked-off-part : (r : Rounded) → WorkedOff m order b rest (Reports round m (at (part xs p)) 0 r)
      → WorkedOff m order b rest (Reports round m (at xs) p r)
  worked-off-part r h =
      let f = at (part xs p) in
      let g = at xs in
      let same = part_at xs p in
      let z = h.last in
      let ys = h.others in
      let numbers = after-part p round m f g same ys in
      record {
        last = z;
        others = ys;
        made-last = h.made-last;
        made = h.made;
        is = record {
          number_is = h.is.number_is ∙ worked-part p round z.shift z (after round m ys f) (after round m ys g) numbers 0
              ∙ ap (worked round z.shift z (after round m ys g)) (omega arith);
          rest-is = h.is.rest-is
              ∙ clean-part p m z.shift z (after round m ys f) (after round m ys g) numbers (clean_after round m ys f)
              (clean_after round m ys g) (marks-part p round m f g same ys) 0
              ∙ ap (cleanly m z.shift z (after round m ys g) (clean_after round m ys g)) (omega arith);
        };
      }
