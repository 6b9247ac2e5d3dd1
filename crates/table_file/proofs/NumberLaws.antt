-- A number's 4 bytes written out; a list of numbers in bytes, and the numbers of a list of bytes.
use mathlib.Core.Path.{◌≡◌, refl, sym, ap, subst, fun_ext, ◌∙◌}
use mathlib.Core.List.{List, [], ◌∷◌, ◌++◌, append_assoc, append-nil}
use Prim.Native.Nat.{ℕ, zero, suc, ◌+◌, ◌*◌, ◌/◌, ◌%◌, ◌<◌, ◌≤◌}
use native.Mathlib.Nat.{add-zero, add-suc, not-suc-le-zero}
use native.Mathlib.Omega.{arith}
use lib.Dec.{lit<}
use mir.Syntax.{w32}
use Rattle.std.specs.Int.{from_le_bytes}
use Rattle.std.specs.Simd.{first_chunks}
use lib.ListN.{length, get_or, set, take, drop, length-append, length-drop, get_or-eq_default}
use borrow.Rule.Slice.PartMut.{put_mid}
use Rattle.std.proofs.lemmas.List.{drop-drop}
use lib.Seq.{sets, sets-eq, take-add, length-take-le, get_or-append-add, get_or-take, get_or-drop}
use Rattle.lattice.specs.Buffer.{tabulate}
use Rattle.lattice.specs.Digits.{number, span, digit}
use Rattle.lattice.proofs.BufferLaws.{tabulate-get_or}
use Rattle.lattice.proofs.DigitsLaws.{number-digit, digit-number}
use Rattle.table_file.specs.Numbers.{number_at, bytes_of, bytes_of_all}

-- ---- one number

pub number_is : (bytes : List ℕ) (at : ℕ)
    → number_at bytes at ≡ get_or bytes at 0 + 256 * get_or bytes (at + 1) 0 + 65536 *
    (get_or bytes (at + 2) 0 + 256 * get_or bytes (at + 2 + 1) 0)
unfolding number_at number
number_is bytes at = let e : at + 3 ≡ at + 2 + 1 = omega arith in rw (add-zero at, e) (omega arith)

pub bytes-are : (v : ℕ) → bytes_of v ≡ v % 256 ∷ v / 256 % 256 ∷ v / 65536 % 256 ∷ v / 16777216 % 256 ∷ []
unfolding bytes_of tabulate digit
bytes-are v =
    let e : v / 256 / 256 ≡ v / 65536 = omega arith in
    let f : v / 65536 / 256 ≡ v / 16777216 = omega arith in
    rw (e, f) refl

pub length-bytes : (v : ℕ) → length (bytes_of v) ≡ 4
length-bytes v = ap length (bytes-are v)

-- 4 stores
pub stores-are : (l : List ℕ) (at v : ℕ)
    → set (set (set (set l at (v % 256)) (at + 1) (v / 256 % 256)) (at + 2) (v / 65536 % 256)) (at + 3) (v / 16777216 % 256) ≡ sets l at
    (bytes_of v)
stores-are l at v =
    let e₁ : at + 1 ≡ suc at = omega arith in
    let e₂ : at + 2 ≡ suc (suc at) = omega arith in
    let e₃ : at + 3 ≡ suc (suc (suc at)) = omega arith in
    rw (e₁, e₂, e₃, bytes-are v) refl

-- the bytes of a number put over four others
pub four-put : (l new : List ℕ) (at k v : ℕ) → at + 4 ≤ length l → k ≡ 4 → new ≡ bytes_of v → put_mid at k l new ≡ sets l at (bytes_of v)
four-put l new at k v room e f =
    rw (f, e) (ap (λ (m : List ℕ). take at l ++ (bytes_of v ++ m))
    (drop-drop 4 at l ∙ ap (λ (n : ℕ). drop (at + n) l) (sym (length-bytes v)))
    ∙ sym (append_assoc (take at l) (bytes_of v) (drop (at + length (bytes_of v)) l)) ∙ sym (sets-eq (bytes_of v) l at (omega
    (arith, length-bytes v))))

-- the bytes of a number make it again
pub number-first : (v : ℕ) (rest : List ℕ) → v < 4294967296 → number_at (bytes_of v ++ rest) 0 ≡ v
unfolding number_at bytes_of number tabulate span
number-first v rest h = number-digit 4 (λ b. 256) v h

pub number-later : (xs ys : List ℕ) (at : ℕ) → number_at (xs ++ ys) (length xs + at) ≡ number_at ys at
unfolding number_at
number-later xs ys at = ap (number 4 (λ b. 256)) (fun_ext (λ b.
    let e : length xs + at + b ≡ length xs + (at + b) = omega arith in
    ap (λ (k : ℕ). get_or (xs ++ ys) k 0) e ∙ get_or-append-add xs ys (at + b) 0))

-- ---- a slice four bytes at a time

-- the library reads the lowest byte first
pub number-of-four : (b : List ℕ) → from_le_bytes w32 b ≡ number_at b 0
number-of-four b = omega (arith, number_is b 0)

number-dropped : (n at : ℕ) (bytes : List ℕ) → number_at (drop n bytes) at ≡ number_at bytes (n + at)
unfolding number_at
number-dropped n at bytes = ap (number 4 (λ b. 256)) (fun_ext (λ b.
    let e : n + (at + b) ≡ n + at + b = omega arith in
    get_or-drop n bytes (at + b) 0 ∙ ap (λ (k : ℕ). get_or bytes k 0) e))

number-taken : (bytes : List ℕ) → number_at (take 4 bytes) 0 ≡ number_at bytes 0
unfolding number_at number
number-taken bytes = rw (
  get_or-take 4 bytes 0 0 (lit< tt),
  get_or-take 4 bytes 1 0 (lit< tt),
  get_or-take 4 bytes 2 0 (lit< tt),
  get_or-take 4 bytes 3 0 (lit< tt),
) refl

pub chunk-number : (m k : ℕ) (bytes d : List ℕ) → k < m → number_at (get_or (first_chunks 4 m bytes) k d) 0 ≡ number_at bytes (4 * k)
chunk-number zero k bytes d h = absurd (not-suc-le-zero h)
chunk-number (suc m) zero bytes d h = number-taken bytes
chunk-number (suc m) (suc k) bytes d h =
    let e : 4 + 4 * k ≡ 4 * suc k = omega arith in
    chunk-number m k (drop 4 bytes) d (omega arith) ∙ number-dropped 4 (4 * k) bytes ∙ ap (number_at bytes) e

-- ---- several numbers

pub length-all : (vs : List ℕ) → length (bytes_of_all vs) ≡ 4 * length vs
unfolding bytes_of_all
length-all [] = refl
length-all (v ∷ vs) = length-append (bytes_of v) (bytes_of_all vs) ∙ omega (arith, length-bytes v, length-all vs)

pub all_append : (vs ws : List ℕ) → bytes_of_all (vs ++ ws) ≡ bytes_of_all vs ++ bytes_of_all ws
unfolding bytes_of_all
all_append [] ws = refl
all_append (v ∷ vs) ws = ap (λ (l : List ℕ). bytes_of v ++ l) (all_append vs ws)
    ∙ sym (append_assoc (bytes_of v) (bytes_of_all vs) (bytes_of_all ws))

pub all_one : (v : ℕ) → bytes_of_all (v ∷ []) ≡ bytes_of v
unfolding bytes_of_all
all_one v = append-nil (bytes_of v)

-- number k of the bytes is number k of the list
pub number-of-all : (vs : List ℕ) → ((k : ℕ) → get_or vs k 0 < 4294967296) → (k : ℕ) → number_at (bytes_of_all vs) (4 * k) ≡ get_or vs k 0
unfolding bytes_of_all
number-of-all [] h k = number_is [] (4 * k)
number-of-all (v ∷ vs) h zero = number-first v (bytes_of_all vs) (h 0)
number-of-all (v ∷ vs) h (suc k) =
    let e : 4 * suc k ≡ length (bytes_of v) + 4 * k = omega (arith, length-bytes v) in
    ap (λ (at : ℕ). number_at (bytes_of v ++ bytes_of_all vs) at) e
    ∙ number-later (bytes_of v) (bytes_of_all vs) (4 * k)
    ∙ number-of-all vs (λ (j : ℕ). h (suc j)) k

-- p values after k
pub tabulate-add : (k p : ℕ) (f : ℕ → ℕ) → tabulate (k + p) f ≡ tabulate k f ++ tabulate p (λ i. f (k + i))
unfolding tabulate
tabulate-add k zero f = rw (add-zero k) (sym (append-nil (tabulate k f)))
tabulate-add k (suc p) f = rw (add-suc k p) (ap (λ (l : List ℕ). l ++ (f (k + p) ∷ [])) (tabulate-add k p f)
    ∙ append_assoc (tabulate k f) (tabulate p (λ i. f (k + i))) (f (k + p) ∷ []))

-- ---- the numbers of bytes

module _ (bytes : List ℕ) (small : (i : ℕ) → get_or bytes i 0 < 256) where
  pub number-below : (at : ℕ) → number_at bytes at < 4294967296
  number-below at = omega (arith, number_is bytes at, small at, small (at + 1), small (at + 2), small (at + 2 + 1))

  -- the 4 bytes at a place are those of the number there
  module _ (at : ℕ) (h : at + 4 ≤ length bytes) where
    abbrev part : List ℕ
    part = take 4 (drop at bytes)

    part_length : length part ≡ 4
    part_length = length-take-le 4 (drop at bytes) (omega (arith, length-drop at bytes))

    part-is : (b : ℕ) → b < 4 → get_or part b 0 ≡ get_or bytes (at + b) 0
    part-is b l = get_or-take 4 (drop at bytes) b 0 l ∙ get_or-drop at bytes b 0

    part-number : number 4 (λ b. 256) (λ b. get_or part b 0) ≡ number_at bytes at
    unfolding number number_at
    part-number = rw (part-is 0 (lit< tt), part-is 1 (lit< tt), part-is 2 (lit< tt), part-is 3 (lit< tt)) refl

    digits_are : (b : ℕ) → digit (λ b. 256) (number 4 (λ b. 256) (λ b. get_or part b 0)) b ≡ get_or part b 0
    digits_are = digit-number 4 (λ b. 256) (λ b. get_or part b 0)
        (λ b l. subst (λ (v : ℕ). v < 256) (sym (part-is b l)) (small (at + b)))
        (λ b l. get_or-eq_default part 0 {n = b} (omega (arith, part_length)))

    four-at : bytes_of (number_at bytes at) ≡ part
    unfolding bytes_of
    four-at =
        ap (λ (v : ℕ). tabulate 4 (digit (λ b. 256) v)) (sym part-number)
        ∙ ap (λ (f : ℕ → ℕ). tabulate 4 f) (fun_ext digits_are)
        ∙ tabulate-get_or part 4 0 part_length

  -- the bytes of their first n numbers
  pub all-numbers : (n : ℕ) → 4 * n ≤ length bytes → bytes_of_all (tabulate n (λ k. number_at bytes (4 * k))) ≡ take (4 * n) bytes
  unfolding tabulate bytes_of_all
  all-numbers zero h = refl
  all-numbers (suc n) h =
      let e : 4 * suc n ≡ 4 * n + 4 = omega arith in
      all_append (tabulate n (λ k. number_at bytes (4 * k))) (number_at bytes (4 * n) ∷ [])
      ∙ ap (λ (l : List ℕ). l ++ bytes_of_all (number_at bytes (4 * n) ∷ [])) (all-numbers n (omega arith))
      ∙ ap (λ (l : List ℕ). take (4 * n) bytes ++ l) (all_one (number_at bytes (4 * n)) ∙ four-at (4 * n) (omega arith))
      ∙ sym (take-add (4 * n) 4 bytes)
      ∙ ap (λ (k : ℕ). take k bytes) (sym e)
