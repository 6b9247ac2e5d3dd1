-- The stages in the table of one cell: the strides of its axes, what the stages ask for, and that they give the dose.
use mathlib.Core.Path.{◌≡◌, refl, sym, ap, ap₂, ◌∙◌}
use mathlib.Core.List.{List, [], ◌∷◌}
use Prim.Native.Nat.{ℕ, ◌*◌, ◌^◌, ◌≤◌, ◌<◌}
use native.Mathlib.Nat.{pow-zero}
use native.Mathlib.Omega.{arith}
use lib.Dec.{ltb, lit<}
use lib.ListN.{length, get_or}
use lib.IntN.{ℤ}
use lib.Signed.{mag}
use mir.Syntax.{w32, w64}
use mir.Val.{SFits, to_z, of_z}
use borrow.Author.Tests.{lt-ltb}
use Rattle.arith.specs.Choice.{pick}
use Rattle.arith.specs.Int.{Rounding}
use Rattle.arith.proofs.Choices.{pick_true}
use Rattle.arith.proofs.Round.{Sound}
use Rattle.lattice.specs.declared.Shape.{Shape}
use Rattle.lattice.specs.Buffer.{at}
use Rattle.lattice.specs.Digits.{number}
use Rattle.lattice.specs.Shape.{count, orders, entries}
use Rattle.lattice.specs.Axes.{origin, axes, without}
use Rattle.lattice.specs.Records.{node_number, records_field}
use Rattle.lattice.proofs.ShapeLaws.{orders-range, pow-one, pow-two}
use Rattle.cell.specs.declared.Layout.{Layout}
use Rattle.cell.specs.Cell.{place_at, Laid, base, node_stride, order_stride}
use Rattle.cell.specs.Corners.{one_cell}
use Rattle.cell.proofs.OneCell.{one-shaped, one-accepted}
use Rattle.evaluate.specs.declared.Strides.{Strides}
use Rattle.evaluate.specs.Evaluate.{dose, order_wanted, last_axis, ask_at, answer_by}
use Rattle.evaluate.specs.Stages.{strides_of, Workable, WorkedOff, Gives, Ready}
use Rattle.evaluate.proofs.AnswerLaws.{order-last}
use Rattle.evaluate.proofs.Answering.{IsAxis, AreAxes, workable-in, answer-in, fits, cast}
use Rattle.ramp.specs.Parts.{one, Readable}

-- stages along b, the last, and along vs can be worked off, and their number is the dose
pub record Doses (round : Rounding) (s : Shape) (held : List ℤ) (xs : List ℕ) (m : ℕ) (b : Strides) (vs : List Strides) : Type 0 where
  pub asks : Workable round m 0 b vs (length held) (at held) 0
  pub gives : (r : ℤ) → WorkedOff m 0 b vs (Gives round m (at held) 0 r)
      → r ≡ answer_by round (ask_at (one s) dose origin (place_at xs)) (records_field (one s) held)

-- m orders, n axes, and E entries a record
module _ (s : Shape) (held : List ℤ) (xs : List ℕ) (f : Readable s held (place_at xs)) (m n E : ℕ) (m-is : orders s ≡ m) (n-is : s.axes ≡ n)
    (E-is : m ^ n ≡ E) where
  layout : Layout
  layout = record {
    orders = m;
    entries = E;
    base = 0;
    strides = node_stride (one s) 0 ∷ node_stride (one s) 1 ∷ node_stride (one s) 2 ∷ [];
  }

  entries-are : E ≡ entries (one s)
  unfolding entries one_cell
  entries-are = sym (ap₂ ◌^◌ m-is n-is ∙ E-is)

  laid : Laid (one s) origin layout
  unfolding layout base node_number number one_cell
  laid = record {
    orders-are = sym m-is;
    entries-are = entries-are;
    base-is = omega arith;
    stride-x = refl;
    stride-y = refl;
    stride-z = refl;
  }

  ready : Ready (one s) held origin (place_at xs) dose layout
  unfolding one_cell last_axis order_wanted
  ready =
      let low = f.shape.axes-low in
      let high = f.shape.axes-high in
      record {
        shape = one-shaped s.axes s.degree low high;
        long = f.long;
        here = one-accepted s.axes s.degree low high;
        laid = laid;
        steps_low = f.steps_low;
        last = omega arith;
        smooth = let h = (orders-range s.degree).0 in omega arith;
        corners = f.within;
      }

  -- ---- the axes

  pub along-x : IsAxis (one s) (place_at xs) 0 (strides_of (get_or xs 0 0) E 1)
  unfolding place_at pick node_stride order_stride
  along-x = record { step_is = refl; node-is = entries-are; order_is = sym (pow-zero (orders (one s))) }

  pub along-y : IsAxis (one s) (place_at xs) 1 (strides_of (get_or xs 1 0) (2 * E) m)
  unfolding place_at pick node_stride order_stride one_cell count
  along-y = record {
    step_is = refl;
    node-is = ap (λ (i : ℕ). 2 * i) entries-are;
    order_is = sym (pow-one (orders (one s)) ∙ m-is);
  }

  pub along-z : 2 ≤ n → IsAxis (one s) (place_at xs) 2 (strides_of (get_or xs 2 0) (4 * E) (m * m))
  unfolding place_at node_stride order_stride one_cell count
  along-z h = record {
    step_is = pick-step;
    node-is = double E ∙ ap (λ (i : ℕ). 2 * (2 * i)) entries-are
        ∙ ap (λ (i : ℕ). i * (2 * entries (one s))) (sym (pick_true (ltb 1 s.axes) 2 1 (lt-ltb 1 s.axes (omega arith))));
    order_is = sym (pow-two (orders (one s)) ∙ ap (λ (i : ℕ). i * i) m-is);
  }
    where
      double : (e : ℕ) → 4 * e ≡ 2 * (2 * e)
      double e = omega arith

      pick-step : get_or xs 2 0 ≡ pick (ltb 2 3) (get_or xs 2 0) 0
      pick-step = sym (pick_true (ltb 2 3) (get_or xs 2 0) 0 (lt-ltb 2 3 (lit< tt)))

  -- ---- the stages, axis a the last

  module _ {round : Rounding} (sound : Sound round) (a : ℕ) (last-is : last_axis n dose ≡ a) (b : Strides) (vs : List Strides)
      (is : IsAxis (one s) (place_at xs) a b)
      (are : AreAxes (one s) (place_at xs) (without a (axes n)) vs) where
    axes-are : (one s).axes ≡ n
    unfolding one_cell
    axes-are = n-is

    last : last_axis (one s).axes dose ≡ a
    last = ap (λ (i : ℕ). last_axis i dose) axes-are ∙ last-is

    pub doses : Doses round s held xs m b vs
    unfolding layout
    doses = record {
      asks = workable-in sound (one s) held origin (place_at xs) dose layout ready n a axes-are last 0 (order-last 0 0) b vs is are;
      gives = answer-in sound (one s) held origin (place_at xs) dose layout ready n a axes-are last 0 (order-last 0 0) b vs is are;
    }

-- the dose fits 32 bits
module _ {round : Rounding} (sound : Sound round) (s : Shape) (held : List ℤ) (xs : List ℕ) (f : Readable s held (place_at xs)) (r : ℤ)
    (ok : mag r < 2 ^ 63) (e : r ≡ answer_by round (ask_at (one s) dose origin (place_at xs)) (records_field (one s) held)) where
  abbrev alone : Layout
  alone = layout s held xs f (orders s) s.axes (orders s ^ s.axes) refl refl refl

  ready-alone : Ready (one s) held origin (place_at xs) dose alone
  ready-alone = ready s held xs f (orders s) s.axes (orders s ^ s.axes) refl refl refl

  pub dose-fits : SFits w32 (to_z w64 (of_z w64 r))
  dose-fits = fits sound (one s) held origin xs 0 0 alone ready-alone r ok e

  pub dose-cast : to_z w32 (of_z w32 (to_z w64 (of_z w64 r)))
      ≡ answer_by round (ask_at (one s) dose origin (place_at xs)) (records_field (one s) held)
  dose-cast = cast sound (one s) held origin xs 0 0 alone ready-alone r ok e

-- one, two and three axes
module _ {round : Rounding} (sound : Sound round) (s : Shape) (held : List ℤ) (xs : List ℕ) (f : Readable s held (place_at xs)) (m E : ℕ)
    (m-is : orders s ≡ m) where
  pub on_line : s.axes ≡ 1 → m ^ 1 ≡ E → Doses round s held xs m (strides_of (get_or xs 0 0) E 1) []
  unfolding last_axis axes without pick
  on_line n-is e = doses s held xs f m 1 E m-is n-is e sound 0 refl _ [] (along-x s held xs f m 1 E m-is n-is e) tt

  pub on-plane : s.axes ≡ 2 → m ^ 2 ≡ E → Doses round s held xs m (strides_of (get_or xs 1 0) (2 * E) m)
      (strides_of (get_or xs 0 0) E 1 ∷ [])
  unfolding last_axis axes without pick
  on-plane n-is e =
      doses s held xs f m 2 E m-is n-is e sound 1 refl _ _ (along-y s held xs f m 2 E m-is n-is e)
      (along-x s held xs f m 2 E m-is n-is e, tt)

  pub in-space : s.axes ≡ 3 → m ^ 3 ≡ E
      → Doses round s held xs m (strides_of (get_or xs 2 0) (4 * E) (m * m))
      (strides_of (get_or xs 1 0) (2 * E) m ∷ strides_of (get_or xs 0 0) E 1 ∷ [])
  unfolding last_axis axes without pick
  in-space n-is e =
      doses s held xs f m 3 E m-is n-is e sound 2 refl _ _ (along-z s held xs f m 3 E m-is n-is e (omega arith))
      (along-y s held xs f m 3 E m-is n-is e, (along-x s held xs f m 3 E m-is n-is e, tt))
