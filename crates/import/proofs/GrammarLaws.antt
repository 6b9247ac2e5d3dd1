-- The parser takes a token if and only if it has the grammar, with the parts that the grammar gives it.
use mathlib.Core.Path.{◌≡◌, refl, sym, ap, subst, ◌∙◌}
use mathlib.Core.Logic.{◌⊎◌, inl, inr, ⊎_elim}
use mathlib.Core.Bool.{Bool, true, false, not}
use mathlib.Core.List.{List, [], ◌∷◌, ◌++◌, append-nil}
use Prim.Native.Nat.{ℕ, suc, ◌<◌}
use native.Mathlib.Decide.{ℕ_discrete}
use native.Mathlib.Omega.{arith}
use borrow.Author.Tests.{le-leb, eqb-true, eq-eqb, ne_eqb, not-true}
use lib.Dec.{eqb, eqb-suc-zero}
use lib.ListN.{length, drop}
use lib.Seq.{drop-append_seam, drop-length}
use Rattle.arith.specs.Choice.{pick}
use Rattle.arith.proofs.Choices.{pick_true, pick-false, split, clash, and-true}
use Rattle.import.specs.Bytes.{leading, beyond, leads, skip, none}
use Rattle.import.specs.Grammar.{Number, number_of, Digit, Digits, no-digits, digit, SomeDigits, digits_from, Minus, no_minus, minus, Int, int-zero, int-from, Frac, no-frac, frac, E, e-small, e-large, Sign, no_sign, sign-minus, sign-plus, Exp, no-exp, exp, Grammar, number, is_digit, digits, after_digits, frac_part, exp_part, exp_signed, exp_digits, number_in, fits_exp, fits_frac, fits_int, fits}
use Rattle.import.proofs.BytesLaws.{split-leading, skip-one, skip-none}
use Rattle.import.proofs.SumLaws.{digits_are}
use Rattle.import.proofs.FitsLaws.{exp-absent, exp-present, frac-short, frac-present, frac-absent, int-right}

-- ---- what the grammar's tokens parse to

digit-is : {b : ℕ} → Digit b → is_digit b ≡ true
unfolding is_digit
digit-is {b} h = rw (le-leb 48 b h.0, le-leb b 57 h.1)

-- a digit is no sign and no point
not-lead : (x y : ℕ) {b : ℕ} (bs : List ℕ) → x < 48 → y < 48 → Digit b → leads x y (b ∷ bs) ≡ false
unfolding leads
not-lead x y {b} bs hx hy h = rw (ne_eqb b x (λ e. apart x hx e), ne_eqb b y (λ e. apart y hy e))
  where
    apart : (z : ℕ) → z < 48 → b ≡ z → ⊥
    apart z l e = omega (arith, h.0)

-- digits before what starts with none
module _ (r : List ℕ) (e : digits r ≡ []) where
  run-digits : {ds : List ℕ} → Digits ds → digits (ds ++ r) ≡ ds
  unfolding leading
  run-digits no-digits = e
  run-digits (digit {b} {bs} h d) =
      pick_true (is_digit b) (b ∷ digits (bs ++ r)) [] (digit-is h) ∙ ap (λ (l : List ℕ). b ∷ l) (run-digits d)

  run-beyond : {ds : List ℕ} → Digits ds → after_digits (ds ++ r) ≡ r
  unfolding beyond
  run-beyond {ds} d = ap (λ (l : List ℕ). drop (length l) (ds ++ r)) (run-digits d) ∙ drop-append_seam ds r

-- ---- exp

-- a sign before digits
signed-digits : {s ds : List ℕ} {lowers : Bool} → Sign s lowers → SomeDigits ds → (leads 45 45 (s ++ ds) ≡ lowers)
    × (skip 43 45 (s ++ ds) ≡ ds)
unfolding leads skip pick
signed-digits no_sign (digits_from {b} {bs} h d) =
    (not-lead 45 45 bs (omega arith) (omega arith) h, skip-none 43 45 (b ∷ bs) (not-lead 43 45 bs (omega arith) (omega arith) h))
signed-digits sign-minus d = (refl, refl)
signed-digits sign-plus d = (refl, refl)

some-digits : {ds : List ℕ} → SomeDigits ds → Digits ds × (none ds ≡ false)
some-digits (digits_from {b} {bs} h d) = (digit h d, ne_eqb (suc (length bs)) 0 (λ e. omega arith))

-- digits and nothing more
all_digits : {ds : List ℕ} → Digits ds → digits ds ≡ ds
unfolding leading
all_digits no-digits = refl
all_digits (digit {b} {bs} h d) = pick_true (is_digit b) (b ∷ digits bs) [] (digit-is h) ∙ ap (λ (l : List ℕ). b ∷ l) (all_digits d)

all-beyond : {ds : List ℕ} → Digits ds → after_digits ds ≡ []
unfolding beyond
all-beyond {ds} d = ap (λ (l : List ℕ). drop (length l) ds) (all_digits d) ∙ drop-length ds

-- what the parser makes of [ exp ]
record ExpRead (x : List ℕ) (lowers : Bool) (xs : List ℕ) : Type 0 where
  sign-is : leads 45 45 (exp_signed x) ≡ lowers
  digits_are : digits (exp_digits x) ≡ xs
  fit : fits_exp x ≡ true
  bare : digits x ≡ []
  no-point : leads 46 46 x ≡ false

-- e leads, and is neither a digit nor a point
marked : {e : ℕ} (r : List ℕ) → E e → (leads 101 69 (e ∷ r) ≡ true) × (digits (e ∷ r) ≡ []) × (leads 46 46 (e ∷ r) ≡ false)
unfolding leads leading is_digit pick
marked r e-small = (refl, refl, refl)
marked r e-large = (refl, refl, refl)

marked-reads : (e : ℕ) (s ds : List ℕ) {lowers : Bool} → E e → (leads 45 45 (s ++ ds) ≡ lowers) × (skip 43 45 (s ++ ds) ≡ ds)
    → Digits ds × (none ds ≡ false) → ExpRead (e ∷ (s ++ ds)) lowers ds
marked-reads e s ds m g d =
    let h = marked (s ++ ds) m in
    let after : exp_signed (e ∷ (s ++ ds)) ≡ s ++ ds = skip-one 101 69 (e ∷ (s ++ ds)) h.0 in
    let all : exp_digits (e ∷ (s ++ ds)) ≡ ds = ap (skip 43 45) after ∙ g.1 in
    let read : digits (exp_digits (e ∷ (s ++ ds))) ≡ ds = ap digits all ∙ all_digits d.0 in
    record {
      sign-is = ap (leads 45 45) after ∙ g.0;
      digits_are = read;
      fit = exp-present (e ∷ (s ++ ds)) h.0 ∙ rw (read, d.1, ap after_digits all ∙ all-beyond d.0) refl;
      bare = h.1;
      no-point = h.2;
    }

exp-reads : {x xs : List ℕ} {lowers : Bool} → Exp x lowers xs → ExpRead x lowers xs
unfolding leads skip leading beyond fits_exp pick
exp-reads no-exp = record { sign-is = refl; digits_are = refl; fit = refl; bare = refl; no-point = refl }
exp-reads (exp {e} {s} {ds} m g d) = marked-reads e s ds m (signed-digits g d) (some-digits d)

-- ---- frac

-- what the parser makes of [ frac ] before [ exp ]
record FracRead (part x fs : List ℕ) : Type 0 where
  digits_are : digits (skip 46 46 part) ≡ fs
  rest-is : after_digits (skip 46 46 part) ≡ x
  fit : fits_frac part ≡ true
  bare : digits part ≡ []

pointed : (ds x : List ℕ) {xs : List ℕ} {lowers : Bool} → Digits ds × (none ds ≡ false) → ExpRead x lowers xs
    → FracRead (46 ∷ (ds ++ x)) x ds
unfolding leads skip leading is_digit pick
pointed ds x d r =
    let read : digits (skip 46 46 (46 ∷ (ds ++ x))) ≡ ds = run-digits x r.bare d.0 in
    let rest : after_digits (skip 46 46 (46 ∷ (ds ++ x))) ≡ x = run-beyond x r.bare d.0 in
    record {
      digits_are = read;
      rest-is = rest;
      fit = frac-present (46 ∷ (ds ++ x)) (ap none read ∙ d.1) ∙ ap fits_exp rest ∙ r.fit;
      bare = refl;
    }

frac-reads : {f fs x xs : List ℕ} {lowers : Bool} → Frac f fs → ExpRead x lowers xs → FracRead (f ++ x) x fs
frac-reads {x = x} no-frac r =
    let e = skip-none 46 46 x r.no-point in
    let rest : after_digits (skip 46 46 x) ≡ x = ap after_digits e ∙ run-beyond x r.bare no-digits in
    record {
      digits_are = ap digits e ∙ r.bare;
      rest-is = rest;
      fit = frac-absent x r.no-point ∙ ap fits_exp rest ∙ r.fit;
      bare = r.bare;
    }
frac-reads {x = x} (frac {ds} d) r = pointed ds x (some-digits d) r

-- ---- int and number

int-reads : {i : List ℕ} → Int i → Digits i × (fits_int i ≡ true) × ((r : List ℕ) → leads 45 45 (i ++ r) ≡ false)
unfolding fits_int leads
int-reads int-zero = (digit {b = 48} (omega arith, omega arith) no-digits, refl, λ r. refl)
int-reads (int-from {b} {bs} h d) =
    let q : Digit b = (omega (arith, h.0), h.1) in (
      digit q d,
      rw (ne_eqb b 48 (λ e. omega (arith, h.0)), eqb-suc-zero (length bs)) refl,
      λ r. not-lead 45 45 (bs ++ r) (omega arith) (omega arith) q,
    )

minus-reads : {m r : List ℕ} {negative : Bool} → Minus m negative → leads 45 45 r ≡ false → (leads 45 45 (m ++ r) ≡ negative)
    × (skip 45 45 (m ++ r) ≡ r)
unfolding leads skip pick
minus-reads {r = r} no_minus e = (e, skip-none 45 45 r e)
minus-reads minus e = (refl, refl)

-- a token of the grammar is taken, with the grammar's parts
pub grammar-reads : {token : List ℕ} {n : Number} → Grammar token n → (fits token ≡ true) × (number_in token ≡ n)
unfolding number_in
grammar-reads (number {m} {i} {f} {fs} {x} {xs} {negative} {lowers} a b c d) =
    let q = exp-reads d in
    let p = frac-reads c q in
    let j = int-reads b in
    let s = minus-reads {r = i ++ (f ++ x)} a (j.2 (f ++ x)) in
    let token = m ++ (i ++ (f ++ x)) in
    let int : digits (skip 45 45 token) ≡ i = ap digits s.1 ∙ run-digits (f ++ x) p.bare j.0 in
    let part : frac_part token ≡ f ++ x = ap after_digits s.1 ∙ run-beyond (f ++ x) p.bare j.0 in
    let fraction : digits (skip 46 46 (frac_part token)) ≡ fs = ap (λ (l : List ℕ). digits (skip 46 46 l)) part ∙ p.digits_are in
    let rest : exp_part token ≡ x = ap (λ (l : List ℕ). after_digits (skip 46 46 l)) part ∙ p.rest-is in
    let sign : leads 45 45 (exp_signed (exp_part token)) ≡ lowers = ap (λ (l : List ℕ). leads 45 45 (exp_signed l)) rest ∙ q.sign-is in
    let power : digits (exp_digits (exp_part token)) ≡ xs = ap (λ (l : List ℕ). digits (exp_digits l)) rest ∙ q.digits_are in (
      int-right token (ap fits_int int ∙ j.1) ∙ ap fits_frac part ∙ p.fit,
      same_parts s.0 int fraction sign power,
    )
  where
    same_parts : {a a' : Bool} {b b' c c' : List ℕ} {d d' : Bool} {e e' : List ℕ} → a ≡ a' → b ≡ b' → c ≡ c' → d ≡ d' → e ≡ e'
        → number_of a b c d e ≡ number_of a' b' c' d' e'
    same_parts p q r s t = cc

-- ---- the grammar of what the parser takes

-- after digits comes none
beyond-bare : (l : List ℕ) → digits (after_digits l) ≡ []
unfolding leading beyond
beyond-bare [] = refl
beyond-bare (b ∷ bs) = split (is_digit b)
    (λ e. ap (λ (r : List ℕ). digits (drop (length r) (b ∷ bs))) (pick_true (is_digit b) (b ∷ digits bs) [] e) ∙ beyond-bare bs)
    (λ e. ap (λ (r : List ℕ). digits (drop (length r) (b ∷ bs))) (pick-false (is_digit b) (b ∷ digits bs) [] e)
    ∙ pick-false (is_digit b) (b ∷ digits bs) [] e)

-- a byte that leads is the first
lead_is : (x y : ℕ) (l : List ℕ) → leads x y l ≡ true → (b : ℕ) × ((b ≡ x) ⊎ (b ≡ y)) × (l ≡ b ∷ skip x y l)
unfolding leads skip
lead_is x y [] e = clash (cc)
lead_is x y (b ∷ bs) e = (b, either, ap (λ (r : List ℕ). b ∷ r) (sym (pick_true (leads x y (b ∷ bs)) bs (b ∷ bs) e)))
  where
    either : (b ≡ x) ⊎ (b ≡ y)
    either = split (eqb b x) (λ f. inl (eqb-true b x f)) (λ f. inr (eqb-true b y (rw f at e)))

empty : (l : List ℕ) → none l ≡ true → l ≡ []
empty [] e = refl
empty (b ∷ bs) e = absurd (some (eqb-true (suc (length bs)) 0 e))
  where
    some : suc (length bs) ≡ 0 → ⊥
    some h = omega arith

some_of : (l : List ℕ) → Digits l → none l ≡ false → SomeDigits l
some_of l no-digits e = clash (cc)
some_of l (digit h d) e = digits_from h d

minus-of : (l : List ℕ) → (m : List ℕ) × Minus m (leads 45 45 l) × (l ≡ m ++ skip 45 45 l)
minus-of l = split (leads 45 45 l)
    (λ e.
    let h = lead_is 45 45 l e in
    (45 ∷ [], subst (Minus (45 ∷ [])) (sym e) minus, h.2 ∙ ap (λ (b : ℕ). b ∷ skip 45 45 l) (⊎_elim (λ q. q) (λ q. q) h.1)))
    (λ e. ([], subst (Minus []) (sym e) no_minus, sym (skip-none 45 45 l e)))

int_of : (ds : List ℕ) → Digits ds → fits_int ds ≡ true → Int ds
unfolding fits_int leads
int_of ds no-digits e = clash (cc)
int_of ds (digit {b} {bs} h d) e = go (ℕ_discrete b 48)
  where
    go : Dec (b ≡ 48) → Int (b ∷ bs)
    go (yes f) =
        let one : eqb (suc (length bs)) 1 ≡ true = rw (eq-eqb b 48 f) at (and-true (not (none (b ∷ bs))) _ e).1 in
        let n : bs ≡ [] = empty bs (eq-eqb (length bs) 0 (omega (arith, eqb-true (suc (length bs)) 1 one))) in
        rw (f, n) int-zero
    go (no f) = int-from {b = b} (omega (arith, h.0, f), h.1) d

frac-of : (part : List ℕ) → digits part ≡ [] → fits_frac part ≡ true
    → (f : List ℕ) × Frac f (digits (skip 46 46 part)) × (part ≡ f ++ after_digits (skip 46 46 part))
    × (fits_exp (after_digits (skip 46 46 part)) ≡ true)
frac-of part bare e = split (leads 46 46 part)
    (λ l. split (none (digits (skip 46 46 part)))
    (λ n. let z = frac-short part l n in clash (cc))
    (λ n.
    let h = lead_is 46 46 part l in (
      46 ∷ digits (skip 46 46 part),
      frac (some_of (digits (skip 46 46 part)) (digits_are (skip 46 46 part)) n),
      h.2 ∙ ap (λ (b : ℕ). b ∷ skip 46 46 part) (⊎_elim (λ q. q) (λ q. q) h.1)
          ∙ ap (λ (r : List ℕ). 46 ∷ r) (sym (split-leading is_digit (skip 46 46 part))),
      sym (frac-present part n) ∙ e,
    )))
    (λ l.
    let s = skip-none 46 46 part l in
    let z : digits (skip 46 46 part) ≡ [] = ap digits s ∙ bare in
    ([], subst (Frac []) (sym z) no-frac, sym (ap after_digits s ∙ run-beyond part bare no-digits), sym (frac-absent part l) ∙ e))

-- a minus sign, or a plus sign
sign-first : (b : ℕ) (l : List ℕ) → b ≡ 45 → leads 43 45 (b ∷ l) ≡ true
unfolding leads
sign-first b l e = rw e refl

plus-first : (l : List ℕ) (b : ℕ) (r : List ℕ) → b ≡ 43 → l ≡ b ∷ r → leads 45 45 l ≡ false
unfolding leads
plus-first l b r e f = rw (f, e) refl

minus-first : (b : ℕ) (l : List ℕ) → b ≡ 45 → leads 45 45 (b ∷ l) ≡ true
unfolding leads
minus-first b l e = rw e refl

sign_of : (l : List ℕ) → (s : List ℕ) × Sign s (leads 45 45 l) × (l ≡ s ++ skip 43 45 l)
sign_of l = split (leads 43 45 l)
    (λ f.
    let h = lead_is 43 45 l f in
    ⊎_elim
    (λ (q : h.0 ≡ 43). (
      43 ∷ [],
      subst (Sign (43 ∷ [])) (sym (plus-first l h.0 (skip 43 45 l) q h.2)) sign-plus,
      h.2 ∙ ap (λ (b : ℕ). b ∷ skip 43 45 l) q,
    ))
    (λ (q : h.0 ≡ 45). (
      45 ∷ [],
      subst (Sign (45 ∷ [])) (sym (ap (leads 45 45) h.2 ∙ minus-first h.0 (skip 43 45 l) q)) sign-minus,
      h.2 ∙ ap (λ (b : ℕ). b ∷ skip 43 45 l) q,
    ))
    h.1)
    (λ f. ([], subst (Sign []) (sym (no-first l f)) no_sign, sym (skip-none 43 45 l f)))
  where
    no-first : (l : List ℕ) → leads 43 45 l ≡ false → leads 45 45 l ≡ false
    no-first l f = split (leads 45 45 l)
        (λ e.
        let h = lead_is 45 45 l e in
        let g = ap (leads 43 45) h.2 ∙ sign-first h.0 (skip 45 45 l) (⊎_elim (λ q. q) (λ q. q) h.1) in
        clash (cc))
        (λ e. e)

nothing : Exp [] (leads 45 45 (exp_signed [])) (digits (exp_digits []))
unfolding leads skip leading pick
nothing = no-exp

exp-of : (x : List ℕ) → fits_exp x ≡ true → Exp x (leads 45 45 (exp_signed x)) (digits (exp_digits x))
exp-of x e = split (leads 101 69 x)
    (λ l.
    let h = lead_is 101 69 x l in
    let g = sign_of (exp_signed x) in
    let f = and-true (not (none (digits (exp_digits x)))) (none (after_digits (exp_digits x))) (sym (exp-present x l) ∙ e) in
    let all : exp_digits x ≡ digits (exp_digits x) = sym (split-leading is_digit (exp_digits x))
    ∙ ap (λ (r : List ℕ). digits (exp_digits x) ++ r) (empty (after_digits (exp_digits x)) f.1) ∙ append-nil (digits (exp_digits x)) in
    subst (λ (y : List ℕ). Exp y (leads 45 45 (exp_signed x)) (digits (exp_digits x)))
    (sym (h.2 ∙ ap (λ (r : List ℕ). h.0 ∷ r) (g.2 ∙ ap (λ (r : List ℕ). g.0 ++ r) all)))
    (exp (mark h.0 h.1) g.1 (some_of (digits (exp_digits x)) (digits_are (exp_digits x))
    (not-true (none (digits (exp_digits x))) f.0))))
    (λ l. subst (λ (y : List ℕ). Exp y (leads 45 45 (exp_signed y)) (digits (exp_digits y)))
    (sym (empty x (sym (exp-absent x l) ∙ e))) nothing)
  where
    mark : (b : ℕ) → (b ≡ 101) ⊎ (b ≡ 69) → E b
    mark b = ⊎_elim (λ q. rw q e-small) (λ q. rw q e-large)

-- what is taken has the grammar
pub reads-grammar : (token : List ℕ) → fits token ≡ true → Grammar token (number_in token)
unfolding fits number_in
reads-grammar token e =
    let t = and-true (fits_int (digits (skip 45 45 token))) (fits_frac (frac_part token)) e in
    let m = minus-of token in
    let f = frac-of (frac_part token) (beyond-bare (skip 45 45 token)) t.1 in
    subst (λ (y : List ℕ). Grammar y (number_in token))
    (sym (m.2 ∙ ap (λ (r : List ℕ). m.0 ++ r) (sym (split-leading is_digit (skip 45 45 token))
    ∙ ap (λ (r : List ℕ). digits (skip 45 45 token) ++ r) f.2)))
    (number m.1 (int_of (digits (skip 45 45 token)) (digits_are (skip 45 45 token)) t.0) f.1 (exp-of (exp_part token) f.3))
