-- What the definitions say: the tokens are the longest runs, the parser is the grammar, and the units are the exact value times 100.
use mathlib.Core.Path.{◌≡◌, refl, sym, ap, subst, ◌∙◌}
use mathlib.Core.Bool.{Bool, true, false, ◌||◌, or-true}
use mathlib.Core.List.{List}
use mathlib.Core.Logic.{⊎_elim}
use Prim.Native.Nat.{ℕ, zero, suc, ◌+◌, ◌-◌, ◌*◌, ◌/◌, ◌%◌, ◌^◌, ◌<◌}
use native.Mathlib.Nat.{div-add-mod', mul-div_cancel, mul-mod_left, mul_assoc, mul-one, mul-div-mul_right, mul-add-mod_self_right, mod-eq_of_lt, mod-lt, mul-lt-mul_of_pos_right, eq-or-lt_of_le}
use native.Mathlib.Omega.{arith}
use borrow.Author.Tests.{eqb-true, eq-eqb, ne_eqb, not-true, not-false}
use lib.Dec.{eqb}
use lib.IntN.{pos, neg_ℤ}
use lib.ListN.{length, get_or, drop, length-drop}
use lib.Seq.{get_or-drop}
use Rattle.arith.specs.Choice.{pick}
use Rattle.arith.proofs.Choices.{split, clash, and-true}
use Rattle.lattice.specs.declared.FullShape.{FullShape}
use Rattle.lattice.specs.Outcome.{done}
use Rattle.lattice.specs.Buffer.{at}
use Rattle.lattice.proofs.BufferLaws.{get_d_tabulate}
use Rattle.lattice.proofs.OutcomeLaws.{first_of-each}
use Rattle.import.specs.Bytes.{leading}
use Rattle.import.specs.Tokens.{separator, other, starts_token, token_count, token_start, token_at, Longest, InToken}
use Rattle.import.specs.Grammar.{Number, Grammar, number_in, fits}
use Rattle.import.specs.Value.{mantissa, raised, lowered, top, bottom, is_whole, units, sample_of}
use Rattle.import.specs.Import.{sample_in, token_outcome, sample_outcome, import_outcome, samples_of, IsSample}
use Rattle.import.proofs.BytesLaws.{leading-front, leading-each, leading-next, run_more}
use Rattle.import.proofs.TokensLaws.{before, start_is, start-counted, starts-are, starts-ascend}
use Rattle.import.proofs.MeasureLaws.{same-zero, ten-some, ten-add}
use Rattle.import.proofs.ImportLaws.{sample-size, token-facts, import-facts}
use Rattle.import.proofs.GrammarLaws.{grammar-reads, reads-grammar}

-- ---- the tokens

module _ (text : List ℕ) where
  -- the run from a start on
  longest-at : (i : ℕ) → i < length text → starts_token text i ≡ true → Longest text i (length (token_at text i))
  unfolding token_at starts_token
  longest-at i l e =
      let run = leading other (drop i text) in
      let front = (leading-front other (drop i text)).0 in
      let size = length-drop i text in
      let f = and-true (other (get_or text i 0)) (eqb i 0 || separator (get_or text (i - 1) 0)) e in
      record {
        some = omega (arith, run_more other text i l f.0);
        inside = omega arith;
        inner =
            λ j h. not-true (separator (get_or text (i + j) 0))
            (ap other (sym (get_or-drop i text j 0)) ∙ leading-each other (drop i text) j h);
        before = λ h. ap (λ (t : Bool). t || separator (get_or text (i - 1) 0)) (sym (ne_eqb i 0 (above h))) ∙ f.1;
        after = λ h. not-false (separator (get_or text (i + length run) 0))
            (ap other (sym (get_or-drop i text (length run) 0)) ∙ leading-next other (drop i text) (omega arith));
      }
    where
      above : 0 < i → i ≡ 0 → ⊥
      above h z = omega arith

  -- every token is a longest run of bytes that are no separators
  pub token-longest : (k : ℕ) → k < token_count text → Longest text (token_start text k) (length (token_at text (token_start text k)))
  token-longest k l = let h = starts-are text k l in longest-at (token_start text k) h.0 h.1

  -- in the order of the text
  pub tokens-ascend : (k l : ℕ) → k < l → l < token_count text → token_start text k < token_start text l
  tokens-ascend k l h m = starts-ascend text k l h m

  starts-here : (p : ℕ) → separator (get_or text p 0) ≡ false → (0 < p → separator (get_or text (p - 1) 0) ≡ true) → starts_token text p ≡
      true
  unfolding starts_token
  starts-here zero e f = rw e refl
  starts-here (suc p) e f = rw (e, f (omega arith)) (or-true (eqb (suc p) 0))

  starting : (p : ℕ) → p < length text → starts_token text p ≡ true → InToken text p (before text p)
  starting p l e =
      let same = start_is text p l e in
      let run = longest-at p l e in
      record {
        counted = start-counted text p l e;
        from = omega arith;
        below = subst (λ (i : ℕ). p < i + length (token_at text i)) (sym same) (omega (arith, run.some));
      }

  -- every byte that is no separator lies in a token
  pub token-covers : (p : ℕ) → p < length text → separator (get_or text p 0) ≡ false → (k : ℕ) × InToken text p k
  token-covers zero l e = (before text zero, starting zero l (starts-here zero e (λ h. absurd (omega arith))))
  token-covers (suc p) l e = split (separator (get_or text p 0))
      (λ s. (
        before text (suc p),
        starting (suc p) l (starts-here (suc p) e
            (λ h. ap (λ (j : ℕ). separator (get_or text j 0)) (less p) ∙ s)),
      ))
      (λ s.
      let h = token-covers p (omega arith) s in
      let i = token_start text h.0 in
      let m = length (token_at text i) in
      let t = token-longest h.0 h.1.counted in
      let in-run : suc p < i + m = ⊎_elim
      (λ (q : suc p ≡ i + m). let z = t.after (omega arith) in let y = ap (λ (j : ℕ). separator (get_or text j 0)) q in clash (cc))
      (λ q. q) (eq-or-lt_of_le h.1.below) in
      (h.0, record { counted = h.1.counted; from = omega (arith, h.1.from); below = in-run }))
    where
      less : (p : ℕ) → suc p - 1 ≡ p
      less p = omega arith

-- ---- the grammar

-- a token is taken if and only if it has the grammar
pub taken-fits : (token : List ℕ) → fits token ≡ true → (n : Number) × Grammar token n
taken-fits token e = (number_in token, reads-grammar token e)

pub fits-taken : (token : List ℕ) (n : Number) → Grammar token n → fits token ≡ true
fits-taken token n g = (grammar-reads g).0

-- the grammar gives a token one number
pub one_number : (token : List ℕ) (n k : Number) → Grammar token n → Grammar token k → n ≡ k
one_number token n k g h = sym (grammar-reads g).1 ∙ (grammar-reads h).1

-- and it is the number that the sample is made of
pub number_is : (token : List ℕ) (n : Number) → Grammar token n → number_in token ≡ n
number_is token n g = (grammar-reads g).1

-- ---- the units

module _ (n : Number) where
  some-bottom : 0 < bottom n
  unfolding bottom
  some-bottom = ten-some (length n.fraction + lowered n)

  -- a whole number of units is the exact value times 100
  pub exact : is_whole n ≡ true → units n * bottom n ≡ top n
  unfolding is_whole units
  exact e = omega (arith, div-add-mod' (top n) (bottom n), eqb-true (top n % bottom n) 0 e)

  -- and only it: where some whole number is, there the units are whole, and they are that number
  pub only-exact : (u : ℕ) → u * bottom n ≡ top n → (is_whole n ≡ true) × (units n ≡ u)
  unfolding is_whole units
  only-exact u e = (
    eq-eqb (top n % bottom n) 0 (ap (λ (t : ℕ). t % bottom n) (sym e) ∙ mul-mod_left u (bottom n)),
    ap (λ (t : ℕ). t / bottom n) (sym e) ∙ mul-div_cancel u some-bottom,
  )

  -- with x = E + 2 - F: m·10^x where x is not below 0
  pub point-right : (x : ℕ) → 2 + raised n ≡ x + (length n.fraction + lowered n) → (is_whole n ≡ true) × (units n ≡ mantissa n * 10 ^ x)
  unfolding top bottom
  point-right x e =
      only-exact (mantissa n * 10 ^ x)
      (mul_assoc (mantissa n) (10 ^ x) (bottom n) ∙ ap (λ (p : ℕ). mantissa n * p)
      (sym (ten-add x (length n.fraction + lowered n) (2 + raised n) e)))

  -- else m / 10^-x, where 10^-x divides m
  pub point-left : (x : ℕ) → length n.fraction + lowered n ≡ x + (2 + raised n)
      → (is_whole n ≡ eqb (mantissa n % 10 ^ x) 0) × (units n ≡ mantissa n / 10 ^ x)
  unfolding is_whole units top bottom
  point-left x e =
      let m = mantissa n in
      let a = 10 ^ (2 + raised n) in
      let b = ten-add x (2 + raised n) (length n.fraction + lowered n) e in
      let some = ten-some (2 + raised n) in (
        ap (λ (k : ℕ). eqb (m * a % k) 0) b ∙ ap (λ (k : ℕ). eqb k 0) (scaled-rest m (10 ^ x) a (ten-some x) some)
            ∙ same-zero (m % 10 ^ x * a) (m % 10 ^ x) 1 a (omega arith) some (mul-one (m % 10 ^ x * a)),
        ap (λ (k : ℕ). m * a / k) b ∙ mul-div-mul_right m (10 ^ x) some,
      )
    where
      scaled-rest : (m y a : ℕ) → 0 < y → 0 < a → m * a % (y * a) ≡ m % y * a
      scaled-rest m y a hy ha =
          ap (λ (k : ℕ). k % (y * a)) (apart (m / y) (m % y) (sym (div-add-mod' m y)))
          ∙ mul-add-mod_self_right (m / y) (y * a) (m % y * a) ∙ mod-eq_of_lt (mul-lt-mul_of_pos_right (mod-lt m hy) ha)
        where
          apart : (q r : ℕ) → m ≡ q * y + r → m * a ≡ q * (y * a) + r * a
          apart q r h = ap (λ (k : ℕ). k * a) h ∙ omega arith

-- ---- the samples

sample-signed : (n : Number) → sample_of n ≡ pick n.negative (neg_ℤ (pos (units n))) (pos (units n))
unfolding sample_of
sample-signed n = refl

-- where nothing is refused, each sample is that of its token
pub samples-right : (t : FullShape) (text : List ℕ) (room : ℕ) → import_outcome t text room ≡ done tt
    → (k : ℕ) → k < token_count text → IsSample (token_at text (token_start text k)) (at (samples_of text) k)
unfolding samples_of sample_outcome
samples-right t text room e k l =
    let token = token_at text (token_start text k) in
    subst (IsSample token) (sym (get_d_tabulate (token_count text) (λ k. sample_in (token_at text (token_start text k))) k (pos 0) l))
    (sample-right token (token_start text k) k (first_of-each (token_count text) (sample_outcome text) (import-facts t text room e).1 k l))
  where
    sample-right : (token : List ℕ) (start k : ℕ) → token_outcome token start k ≡ done tt → IsSample token (sample_in token)
    sample-right token start k d =
        let f = token-facts token start k d in
        let size = sample-size (number_in token) in
        record {
          short = f.0;
          number = number_in token;
          has = reads-grammar token f.1;
          exact = ap (λ (u : ℕ). u * bottom (number_in token)) size ∙ exact (number_in token) f.2;
          signed = sample-signed (number_in token) ∙ ap (λ (u : ℕ). pick (number_in token).negative (neg_ℤ (pos u)) (pos u)) (sym size);
          limited = f.3;
        }
