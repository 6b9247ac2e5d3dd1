-- A ramp: the doses at a list of positions, three numbers each; refusals, fetches, and what the slice of answers holds afterwards.
use Rattle.std.specs.Prelude.{◌≡◌, ℕ, zero, suc, ◌+◌, ◌*◌, ◌/◌, ◌%◌, ◌<◌, Bool, true, not, ◌&&◌, List, [], ◌∷◌, leb, eqb, ℤ, pos, length}
use Rattle.arith.specs.Choice.{pick}
use Rattle.lattice.specs.declared.FullShape.{FullShape}
use Rattle.lattice.specs.Outcome.{Outcome, Check, done, refused, refuse_unless, first, first_of, passed, when_done}
use Rattle.lattice.specs.Buffer.{at, tabulate, overwrite}
use Rattle.lattice.specs.Shape.{size, full_outcome}
use Rattle.lattice.specs.Axes.{Place}
use Rattle.evaluate.specs.Evaluate.{dose}
use Rattle.query.specs.Queries.{Position, position_at, position_cell, by_position}

-- the number of queries in a list of positions
abbrev pub queries : List ℤ → ℕ
queries ps = length ps / 3

-- the position of query i
unfoldable pub query_at : List ℤ → ℕ → Position
query_at ps i = position_at (at ps (3 * i) ∷ at ps (3 * i + 1) ∷ at ps (3 * i + 2) ∷ [])

-- query i's own call
abbrev pub own_call : FullShape → List ℤ → List ℤ → ℕ → Outcome ℤ
own_call t rs ps i = by_position t rs dose (query_at ps i)

-- a refusal keeps its number; place is the index in the list
abbrev pub in_list : ℕ → Outcome ℤ → Check
in_list i (done v) = done tt
in_list i (refused n p) = refused n i

-- what a call answers, where it is not refused
abbrev pub answer_of : Outcome ℤ → ℤ
answer_of (done v) = v
answer_of (refused n p) = pos 0

-- ---- fetches

unfoldable pub differ : Place → Place → Bool
differ c d = not (eqb (c 0) (d 0) && (eqb (c 1) (d 1) && eqb (c 2) (d 2)))

-- neighbouring pairs of the cells 0 to n that differ
unfoldable pub changes : (ℕ → Place) → ℕ → ℕ
changes cell zero = 0
changes cell (suc n) = changes cell n + pick (differ (cell n) (cell (suc n))) 1 0

-- of the cells of n queries: 0 for an empty list, else one more than the neighbouring pairs with different cells
unfoldable pub fetches : (ℕ → Place) → ℕ → ℕ
fetches cell zero = 0
fetches cell (suc n) = 1 + changes cell n

-- ---- the call

-- 1, 2, 3, 26, then 20, 4, 9, of `given` records' entries, `asked` numbers of positions and room for `room` answers
unfoldable pub list_outcome : FullShape → ℕ → ℕ → ℕ → Check
list_outcome t given asked room =
    first (full_outcome t)
    (first (refuse_unless (leb asked 768 && eqb (asked % 3) 0) 20 0)
    (first (refuse_unless (eqb given (size t.shape)) 4 0) (refuse_unless (leb (asked / 3) room) 9 0)))

-- the first refused query, else the number of fetches
unfoldable pub queries_outcome : FullShape → List ℤ → List ℤ → Outcome ℕ
queries_outcome t rs ps =
    first (first_of (queries ps) (λ i. in_list i (own_call t rs ps i)))
    (done (fetches (λ i. position_cell t (query_at ps i)) (queries ps)))

unfoldable pub ramp_outcome : FullShape → List ℤ → List ℤ → ℕ → Outcome ℕ
ramp_outcome t rs ps room = first (list_outcome t (length rs) (length ps) room) (queries_outcome t rs ps)

-- what the slice of answers holds afterwards
unfoldable pub ramp_writes : FullShape → List ℤ → List ℤ → List ℤ → List ℤ
ramp_writes t rs ps old =
    when_done (ramp_outcome t rs ps (length old)) (overwrite (tabulate (queries ps) (λ i. answer_of (own_call t rs ps i))) old) old

-- query i is the first of the list whose own call is refused, with number n
pub record FirstRefused (t : FullShape) (rs ps : List ℤ) (n i : ℕ) : Type 0 where
  pub inside : i < queries ps
  pub before : (j : ℕ) → j < i → passed (own_call t rs ps j) ≡ true
  pub place : ℕ
  pub own : own_call t rs ps i ≡ refused n place
