-- Lists by their elements' numbers, and what a lent slice holds after its front was written.
use Rattle.std.specs.Prelude.{ℕ, zero, suc, List, [], ◌∷◌, ◌++◌, ℤ, pos, length, get_or, drop}

-- number k of a list, 0 past its end
abbrev pub at : List ℤ → ℕ → ℤ
at xs k = get_or xs k (pos 0)

module _ {A : Type 0} where
  -- f 0, f 1, .., f (n - 1)
  unfoldable pub tabulate : ℕ → (ℕ → A) → List A
  tabulate zero f = []
  tabulate (suc n) f = tabulate n f ++ (f n ∷ [])

  -- a longer slice keeps its tail
  abbrev pub overwrite : List A → List A → List A
  overwrite new old = new ++ drop (length new) old
