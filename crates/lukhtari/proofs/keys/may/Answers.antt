-- `lukhtari::keys::may` meets its contract: keys in their order, and a number that is no key holds no right.
use Rattle.std.proofs.Common.{is_le, int_cmp}
use mathlib.Core.Path.{◌≡◌, refl, sym, ap, ap₂, subst, ◌∙◌}
use mathlib.Core.List.{[], ◌∷◌}
use mathlib.Core.Bool.{Bool, true, false, ◌&&◌}
use mathlib.Core.Logic.{◌⊎◌, inl, inr}
use Prim.Native.Nat.{ℕ, ◌<◌, ◌≤◌}
use native.Mathlib.Omega.{arith}
use borrow.Author.Tests.{lt-leb}
use lib.Dec.{leb}
use lib.IntN.{pos, ℤ}
use lib.ListN.{get_or}
use denote.Enum.Declared.{tag_of}
use Rattle.lukhtari.specs.contracts.keys.Key.{the_type}
use Rattle.lukhtari.specs.declared.keys.Key.{Key}
use Rattle.lukhtari.specs.declared.keys.Key.TheVariants.{Operator, Colourist, Service}
use Rattle.lukhtari.specs.Rights.{first_key, key_number, holds}
use Rattle.lukhtari.proofs.keys.may.Goals as goal

-- the derived order is that of the numbers
ordered : (a b : Key) → is_le (int_cmp (get_or {A = ℤ} (pos 1 ∷ pos 2 ∷ pos 3 ∷ []) (tag_of the_type a) (pos 0)) (get_or {A = ℤ}
    (pos 1 ∷ pos 2 ∷ pos 3 ∷ []) (tag_of the_type b) (pos 0)))
    ≡ (leb (key_number a) (key_number b) && leb (key_number b) 3)
ordered Operator Operator = refl
ordered Operator Colourist = refl
ordered Operator Service = refl
ordered Colourist Operator = refl
ordered Colourist Colourist = refl
ordered Colourist Service = refl
ordered Service Operator = refl
ordered Service Colourist = refl
ordered Service Service = refl

positive : (k : Key) → 1 ≤ key_number k
positive Operator = omega arith
positive Colourist = omega arith
positive Service = omega arith

and_false : (b : Bool) → false ≡ (b && false)
and_false true = refl
and_false false = refl

-- a number that is no key holds nothing
no_key : (f key : ℕ) → (key ≡ 0) ⊎ (3 < key) → 1 ≤ f → false ≡ (leb f key && leb key 3)
no_key f key (inl e) low = sym (ap (λ b. b && leb key 3) (lt-leb f key (omega (arith, e, low))))
no_key f key (inr h) low = rw (lt-leb key 3 h) (and_false (leb f key))

pub returns-in-Ok : goal.returns-in-Ok
unfolding holds
returns-in-Ok c = c.le.ensures ∙ ordered c.first_key-first.result c.in-Ok.key
    ∙ ap₂ (λ (f k : ℕ). leb f k && leb k 3) c.first_key-first.ensures c.in-Ok.ensures

pub returns-in-Err : goal.returns-in-Err
unfolding holds
returns-in-Err c = no_key (first_key c.args.right) c.args.key c.in-Err.ensures (subst (λ n. 1 ≤ n) c.first_key-first.ensures
    (positive c.first_key-first.result))
