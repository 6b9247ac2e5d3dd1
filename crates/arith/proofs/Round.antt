-- Division of ℤ by a positive natural, rounded down and to the nearest with halves up: what characterises each, that it is unique, and what
-- it gives of a multiple.
use mathlib.Core.Path.{◌≡◌, refl, sym, ◌∙◌, ap, ap₂, subst}
use mathlib.Core.List.{[], ◌∷◌}
use mathlib.Core.Logic.{◌⊎◌, inl, inr}
use Prim.Native.Nat.{ℕ, zero, suc, ◌+◌, ◌*◌, ◌-◌, ◌/◌, ◌%◌, ◌^◌, ◌≤◌, ◌<◌}
use native.Mathlib.Nat.{div-add-mod, mod-lt, mul-lt-mul_of_pos_left, not-suc-le-zero, mul_comm, pow-zero, pow-succ', mul-mod_right, mul-div_cancel_left}
use native.Mathlib.Omega.{arith}
use lib.IntN.{ℤ, pos, negsuc, neg_ℤ, nat_abs, ◌+ℤ◌, ◌-ℤ◌, ◌*ℤ◌, +ℤ_idr, -ℤ-+ℤ_cancel}
use lib.Signed.{◌≤ℤ◌, ◌<ℤ◌, lt_z_yes}
use lib.Dec.{ltb→lt, lt→ltb}
use Rattle.arith.specs.Int.{◌^ℤ◌, floor_div, round_half_up, Rounding}
use Rattle.arith.proofs.Laws.{*ℤ-negℤ}
use Rattle.arith.proofs.Quote.{quotes, ring! }
use Rattle.arith.proofs.Order.{le-elim, le_intro, pos_inj, ≤ℤ-total, <ℤ→≤ℤ}
use Rattle.arith.proofs.Abs.{abs-mul, abs-add, abs≤}
use Rattle.arith.proofs.Linear.{eq→ℕ, le→ℕ, lt→ℕ, ℕ→le, ℕ→lt}

shift : (A B r : ℤ) → A ≡ B +ℤ r → neg_ℤ B ≡ neg_ℤ A +ℤ r
shift A B r e = rw e (ring! (B ∷ r ∷ []) (search quotes depth 40) tt)

-- z = m q + r with r < m
pub record Floor (z : ℤ) (m : ℕ) (q : ℤ) : Type 0 where
  pub rest : ℕ
  pub below : rest < m
  pub is : z ≡ pos m *ℤ q +ℤ pos rest

pub floor-is : (z : ℤ) (m : ℕ) → 0 < m → Floor z m (floor_div z m)
floor-is (pos a) m h = record { rest = a % m; below = mod-lt a h; is = ap pos (sym (div-add-mod a m)) }
floor-is (negsuc a) m h = record {
  rest = m - suc (a % m);
  below = omega arith;
  is = shift (pos (m * suc (a / m))) (pos (suc a)) (pos (m - suc (a % m))) (ap pos (omega (arith, div-add-mod a m, mod-lt a h)));
}

one_way : (q p : ℤ) (m r s k : ℕ) → p ≡ q +ℤ pos k → pos m *ℤ q +ℤ pos r ≡ pos m *ℤ p +ℤ pos s → r ≡ m * k + s
one_way q p m r s k e f = pos_inj
    (ring! (q ∷ pos m ∷ pos r ∷ []) {y = (pos m *ℤ q +ℤ pos r) -ℤ pos m *ℤ q} (search quotes depth 40) tt
    ∙ ap (λ t. t -ℤ pos m *ℤ q) (f ∙ ap (λ t. pos m *ℤ t +ℤ pos s) e)
    ∙ ring! (q ∷ pos m ∷ pos k ∷ pos s ∷ []) {x = (pos m *ℤ (q +ℤ pos k) +ℤ pos s) -ℤ pos m *ℤ q} {y = pos m *ℤ pos k +ℤ pos s}
    (search quotes depth 40) tt)

no_step : (m r s k : ℕ) → r < m → r ≡ m * k + s → k ≡ 0
no_step m r s zero h e = refl
no_step m r s (suc k) h e = omega arith

one-way' : {z q p : ℤ} {m : ℕ} → Floor z m q → Floor z m p → q ≤ℤ p → q ≡ p
one-way' {z} {q} {p} {m} f g h =
    let k = le-elim h in
    sym (k.1 ∙ ap (λ (n : ℕ). q +ℤ pos n)
    (no_step m f.rest g.rest k.0 f.below (one_way q p m f.rest g.rest k.0 k.1 (sym f.is ∙ g.is)))
    ∙ +ℤ_idr q)

-- the quotient is the only one
pub floor-unique : {z q p : ℤ} {m : ℕ} → Floor z m q → Floor z m p → q ≡ p
floor-unique {z} {q} {p} f g = go (≤ℤ-total q p)
  where
    go : (q ≤ℤ p) ⊎ (p ≤ℤ q) → q ≡ p
    go (inl h) = one-way' f g h
    go (inr h) = sym (one-way' g f h)

-- and so is what is left
pub floor-rest : {z q : ℤ} {m : ℕ} (f g : Floor z m q) → f.rest ≡ g.rest
floor-rest {z} {q} {m} f g =
    let e : f.rest ≡ m * 0 + g.rest = one_way q q m f.rest g.rest 0 (sym (+ℤ_idr q)) (sym f.is ∙ g.is) in
    omega arith

-- ---- to the nearest, halves up: −y < 2 (q y − x) ≤ y
pub record Nearest (x : ℤ) (y : ℕ) (q : ℤ) : Type 0 where
  pub above : neg_ℤ (pos y) <ℤ (pos 2 *ℤ (q *ℤ pos y -ℤ x))
  pub upto : (pos 2 *ℤ (q *ℤ pos y -ℤ x)) ≤ℤ pos y

nf : (x y q g : ℤ) → pos 2 *ℤ x +ℤ (pos 2 *ℤ (q *ℤ y -ℤ x) +ℤ g) ≡ (pos 2 *ℤ y) *ℤ q +ℤ g
nf x y q g = ring! (x ∷ y ∷ q ∷ g ∷ []) (search quotes depth 40) tt

fn : (x y q r : ℤ) → pos 2 *ℤ x +ℤ y ≡ (pos 2 *ℤ y) *ℤ q +ℤ r → y ≡ pos 2 *ℤ (q *ℤ y -ℤ x) +ℤ r
fn x y q r e =
    ring! (x ∷ y ∷ []) {y = (pos 2 *ℤ x +ℤ y) -ℤ pos 2 *ℤ x} (search quotes depth 40) tt
    ∙ ap (λ t. t -ℤ pos 2 *ℤ x) e
    ∙ ring! (x ∷ y ∷ q ∷ r ∷ []) {x = ((pos 2 *ℤ y) *ℤ q +ℤ r) -ℤ pos 2 *ℤ x} (search quotes depth 40) tt

under-two : (y w g : ℤ) → neg_ℤ y <ℤ w → y ≡ w +ℤ g → g <ℤ (pos 2 *ℤ y)
under-two y w g h e =
    let ρ = y ∷ w ∷ g ∷ [] in
    ℕ→lt ρ (search quotes depth 40)
    (omega (arith, lt→ℕ ρ (search quotes depth 40) h, eq→ℕ ρ (search quotes depth 40) e))

over-minus : (y w g : ℤ) → g <ℤ (pos 2 *ℤ y) → y ≡ w +ℤ g → neg_ℤ y <ℤ w
over-minus y w g h e =
    let ρ = y ∷ w ∷ g ∷ [] in
    ℕ→lt ρ (search quotes depth 40)
    (omega (arith, lt→ℕ ρ (search quotes depth 40) h, eq→ℕ ρ (search quotes depth 40) e))

near→floor : (x : ℤ) (y : ℕ) (q : ℤ) → Nearest x y q → Floor (pos 2 *ℤ x +ℤ pos y) (2 * y) q
near→floor x y q h =
    let g = le-elim h.upto in
    record {
      rest = g.0;
      below = ltb→lt g.0 (2 * y) (under-two (pos y) (pos 2 *ℤ (q *ℤ pos y -ℤ x)) (pos g.0) h.above g.1).lt;
      is = ap (λ t. pos 2 *ℤ x +ℤ t) g.1 ∙ nf x (pos y) q (pos g.0);
    }

floor→near : (x : ℤ) (y : ℕ) (q : ℤ) → Floor (pos 2 *ℤ x +ℤ pos y) (2 * y) q → Nearest x y q
floor→near x y q f =
    let e = fn x (pos y) q (pos f.rest) f.is in
    record {
      above = over-minus (pos y) (pos 2 *ℤ (q *ℤ pos y -ℤ x)) (pos f.rest) (lt_z_yes (lt→ltb f.rest (2 * y) f.below)) e;
      upto = le_intro f.rest e;
    }

-- what `round_half_up` gives is nearest
pub round-near : (x : ℤ) (y : ℕ) → 0 < y → Nearest x y (round_half_up x y)
unfolding round_half_up
round-near x y h = floor→near x y (round_half_up x y) (floor-is (pos 2 *ℤ x +ℤ pos y) (2 * y) (omega arith))

-- and it alone is, halves going up
pub round-unique : (x : ℤ) (y : ℕ) (q : ℤ) → 0 < y → Nearest x y q → q ≡ round_half_up x y
unfolding round_half_up
round-unique x y q h n = floor-unique (near→floor x y q n) (floor-is (pos 2 *ℤ x +ℤ pos y) (2 * y) (omega arith))

-- exact where y divides x
pub round_exact : (q : ℤ) (y : ℕ) → 0 < y → round_half_up (q *ℤ pos y) y ≡ q
round_exact q y h = sym (round-unique (q *ℤ pos y) y q h
    (floor→near (q *ℤ pos y) y q
    (record { rest = y; below = omega arith; is = ring! (q ∷ pos y ∷ []) (search quotes depth 40) tt })))

-- ---- a common factor goes out
pub floor-scale : (z : ℤ) (k m : ℕ) → 0 < k → 0 < m → floor_div (pos k *ℤ z) (k * m) ≡ floor_div z m
floor-scale z k m h l =
    let f = floor-is z m l in
    floor-unique (floor-is (pos k *ℤ z) (k * m) (pos-mul k m h l))
    (record {
      rest = k * f.rest;
      below = scaled k f.rest m h f.below;
      is = ap (λ t. pos k *ℤ t) f.is
          ∙ out (pos k) (pos m) (floor_div z m) (pos f.rest);
    })
  where
    pos-mul : (k m : ℕ) → 0 < k → 0 < m → 0 < k * m
    pos-mul (suc k) (suc m) h l = omega arith
    pos-mul (suc k) zero h l = absurd (not-suc-le-zero l)
    pos-mul zero m h l = absurd (not-suc-le-zero h)

    scaled : (k r m : ℕ) → 0 < k → r < m → k * r < k * m
    scaled k r m h l = mul-lt-mul_of_pos_left l h

    out : (k m q r : ℤ) → k *ℤ (m *ℤ q +ℤ r) ≡ k *ℤ m *ℤ q +ℤ k *ℤ r
    out k m q r = ring! (k ∷ m ∷ q ∷ r ∷ []) (search quotes depth 40) tt

-- by an even number: half of it added, and rounded down
pub round-half : (x : ℤ) (h : ℕ) → 0 < h → round_half_up x (2 * h) ≡ floor_div (x +ℤ pos h) (2 * h)
unfolding round_half_up
round-half x h l = ap (λ t. floor_div t (2 * (2 * h))) (twice x (pos h)) ∙ floor-scale (x +ℤ pos h) 2 (2 * h) (omega arith) (omega arith)
  where
    twice : (x h : ℤ) → pos 2 *ℤ x +ℤ pos 2 *ℤ h ≡ pos 2 *ℤ (x +ℤ h)
    twice x h = ring! (x ∷ h ∷ []) (search quotes depth 40) tt

-- a common factor of both parts of a quotient goes out
round-common : (k : ℕ) (x : ℤ) (y : ℕ) → 0 < k → 0 < y → round_half_up (pos k *ℤ x) (k * y) ≡ round_half_up x y
unfolding round_half_up
round-common k x y h l =
    ap (λ (i : ℕ). floor_div (pos 2 *ℤ (pos k *ℤ x) +ℤ pos (k * y)) i) (turn k y)
    ∙ ap (λ z. floor_div z (k * (2 * y))) (out (pos k) x (pos y)) ∙ floor-scale (pos 2 *ℤ x +ℤ pos y) k (2 * y) h (twice y l)
  where
    turn : (k y : ℕ) → 2 * (k * y) ≡ k * (2 * y)
    turn k y = omega arith

    twice : (y : ℕ) → 0 < y → 0 < 2 * y
    twice y l = omega arith

    out : (k x y : ℤ) → pos 2 *ℤ (k *ℤ x) +ℤ k *ℤ y ≡ k *ℤ (pos 2 *ℤ x +ℤ y)
    out k x y = ring! (k ∷ x ∷ y ∷ []) (search quotes depth 40) tt

-- ---- multiples, and their quotients

pub pos-power : (k n : ℕ) → pos k ^ℤ n ≡ pos (k ^ n)
pos-power k zero = ap pos (sym (pow-zero k))
pos-power k (suc n) = ap (λ z. pos k *ℤ z) (pos-power k n) ∙ ap pos (sym (pow-succ' k n))

module _ (d : ℕ) (some : 0 < d) where
  -- a multiple and its quotient
  pub floor-multiple : (q : ℤ) → floor_div (pos d *ℤ q) d ≡ q
  floor-multiple q = floor-unique (floor-is (pos d *ℤ q) d some) (record { rest = 0; below = some; is = sym (+ℤ_idr (pos d *ℤ q)) })

  quotient : (z : ℤ) → nat_abs z % d ≡ 0 → (q : ℤ) × (z ≡ pos d *ℤ q)
  quotient (pos a) h = (pos (a / d), ap pos (omega (arith, div-add-mod a d)))
  quotient (negsuc a) h = (
    neg_ℤ (pos (suc a / d)),
    ap (λ (k : ℕ). neg_ℤ (pos k)) (back (suc a) (suc a / d) (suc a % d) (div-add-mod (suc a) d) h)
        ∙ sym (*ℤ-negℤ (pos d) (pos (suc a / d))),
  )
    where
      back : (s q r : ℕ) → d * q + r ≡ s → r ≡ 0 → s ≡ d * q
      back s q r e h = omega arith

  -- a number that leaves no rest is the multiple of its quotient
  pub whole_is : (z : ℤ) → nat_abs z % d ≡ 0 → z ≡ pos d *ℤ floor_div z d
  whole_is z h = let q = quotient z h in q.1 ∙ ap (λ y. pos d *ℤ y) (sym (ap (λ y. floor_div y d) q.1 ∙ floor-multiple q.0))

  pub rest-none : (z q : ℤ) → z ≡ pos d *ℤ q → nat_abs z % d ≡ 0
  rest-none z q e = ap (λ (k : ℕ). k % d) (ap nat_abs e ∙ abs-mul (pos d) q) ∙ mul-mod_right d (nat_abs q)

  pub size_of : (z q : ℤ) → z ≡ pos d *ℤ q → nat_abs z / d ≡ nat_abs q
  size_of z q e = ap (λ (k : ℕ). k / d) (ap nat_abs e ∙ abs-mul (pos d) q) ∙ mul-div_cancel_left (nat_abs q) some

-- ---- fractions

-- equal fractions round alike
pub round_same : (x z : ℤ) (y w : ℕ) → 0 < y → 0 < w → x *ℤ pos w ≡ z *ℤ pos y → round_half_up x y ≡ round_half_up z w
round_same x z y w hy hw e =
    sym (round-common w x y hw hy) ∙ ap₂ round_half_up (turn x (pos w) ∙ e ∙ sym (turn z (pos y))) (mul_comm w y) ∙ round-common y z w hy hw
  where
    turn : (x w : ℤ) → w *ℤ x ≡ x *ℤ w
    turn x w = ring! (x ∷ w ∷ []) (search quotes depth 40) tt

-- a larger numerator rounds to no less
less : (p y x z : ℤ) (k : ℕ) → (pos 2 *ℤ ((p +ℤ pos k) *ℤ y -ℤ x)) ≤ℤ y → neg_ℤ y <ℤ (pos 2 *ℤ (p *ℤ y -ℤ z)) → x ≤ℤ z → (pos k *ℤ y) <ℤ y
less p y x z k u a l =
    let ρ = p ∷ pos k ∷ y ∷ x ∷ z ∷ [] in
    ℕ→lt ρ (search quotes depth 40)
    (omega (
      arith,
      le→ℕ ρ (search quotes depth 40) u,
      lt→ℕ ρ (search quotes depth 40) a,
      le→ℕ ρ (search quotes depth 40) l,
    ))

near-mono : (x z : ℤ) (y : ℕ) (q p : ℤ) → Nearest x y q → Nearest z y p → x ≤ℤ z → (q ≤ℤ p) ⊎ (p ≤ℤ q) → q ≤ℤ p
near-mono x z y q p f g l (inl a) = a
near-mono x z y q p f g l (inr a) =
    let k = le-elim a in
    let h = less p (pos y) x z k.0 (subst (λ t. (pos 2 *ℤ (t *ℤ pos y -ℤ x)) ≤ℤ pos y) k.1 f.upto) g.above l in
    le_intro 0 (sym (k.1 ∙ ap (λ (i : ℕ). p +ℤ pos i) (none k.0 y (ltb→lt (k.0 * y) y h.lt)) ∙ +ℤ_idr p) ∙ sym (+ℤ_idr q))
  where
    none : (k y : ℕ) → k * y < y → k ≡ 0
    none zero y h = refl
    none (suc k) y h = absurd (omega arith)

pub round_mono : (x z : ℤ) (y : ℕ) → 0 < y → x ≤ℤ z → round_half_up x y ≤ℤ round_half_up z y
round_mono x z y h l = near-mono x z y (round_half_up x y) (round_half_up z y) (round-near x y h) (round-near z y h) l
    (≤ℤ-total (round_half_up x y) (round_half_up z y))

-- a fraction below a half, whatever its sign
pub round-small : (x : ℤ) (y : ℕ) → 0 < y → 2 * nat_abs x < y → round_half_up x y ≡ pos 0
round-small (pos k) y h l =
    let ρ = pos k ∷ pos y ∷ [] in
    sym (round-unique (pos k) y (pos 0) h
    (record {
      above = ℕ→lt ρ (search quotes depth 40) (omega arith);
      upto =
          ℕ→le ρ (search quotes depth 40) (omega arith);
    }))
round-small (negsuc k) y h l =
    let ρ = negsuc k ∷ pos y ∷ [] in
    sym (round-unique (negsuc k) y (pos 0) h
    (record {
      above = ℕ→lt ρ (search quotes depth 40) (omega arith);
      upto =
          ℕ→le ρ (search quotes depth 40) (omega arith);
    }))

-- ---- any rounding that is off by at most half and depends on the quotient alone

pub record Sound (round : Rounding) : Type 0 where
  pub nearly : (x : ℤ) (y : ℕ) → 0 < y → 2 * nat_abs (round x y *ℤ pos y -ℤ x) ≤ y
  pub common : (k : ℕ) (x : ℤ) (y : ℕ) → 0 < k → 0 < y → round (pos k *ℤ x) (k * y) ≡ round x y

pub half-up-sound : Sound round_half_up
half-up-sound = record { nearly = nearly; common = round-common }
  where
    nearly : (x : ℤ) (y : ℕ) → 0 < y → 2 * nat_abs (round_half_up x y *ℤ pos y -ℤ x) ≤ y
    nearly x y h =
        let n = round-near x y h in
        subst (λ (k : ℕ). k ≤ y) (abs-mul (pos 2) (round_half_up x y *ℤ pos y -ℤ x)) (abs≤ (record { lo = <ℤ→≤ℤ n.above; hi = n.upto }))

-- what it gives is not much larger than the quotient
pub sound-size : {round : Rounding} → Sound round → (x : ℤ) (y : ℕ) → 0 < y → 2 * (nat_abs (round x y) * y) ≤ 2 * nat_abs x + y
sound-size {round} sound x y h =
    let e = ap nat_abs (-ℤ-+ℤ_cancel (round x y *ℤ pos y) x) in
    let f = abs-add (round x y *ℤ pos y -ℤ x) x in
    let g = abs-mul (round x y) (pos y) in
    let n = sound.nearly x y h in
    omega arith

-- −3/4 is −1, 1/2 is 1, −1/2 is 0, 5/2 is 3, −5/2 is −2
halves : (round_half_up (negsuc 2) 4 ≡ negsuc 0) × (round_half_up (pos 1) 2 ≡ pos 1) × (round_half_up (negsuc 0) 2 ≡ pos 0)
    × (round_half_up (pos 5) 2 ≡ pos 3) × (round_half_up (negsuc 4) 2 ≡ negsuc 1)
unfolding round_half_up
halves = (refl, refl, refl, refl, refl)
