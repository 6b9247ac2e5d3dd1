-- `evaluate::first_end` meets its contract: each number of the end is the first stage's, the third 0 where there is none.
use mathlib.Core.Path.{◌≡◌, subst, ◌∙◌}
use mathlib.Core.Bool.{Bool, true}
use mathlib.Core.List.{[], ◌∷◌}
use Prim.Native.Nat.{ℕ, ◌+◌, ◌*◌, ◌^◌, ◌<◌}
use native.Mathlib.Omega.{arith}
use lib.ListN.{length}
use lib.Dec.{eqb}
use lib.IntN.{ℤ}
use lib.Signed.{mag}
use mir.Syntax.{w64}
use mir.Val.{to_z, of_z}
use Rattle.arith.specs.Int.{rounding_of}
use Rattle.arith.proofs.Machine.{read}
use Rattle.lattice.specs.Buffer.{at}
use Rattle.hermite.specs.declared.Rounded.{Rounded}
use Rattle.evaluate.specs.Stages.{worked, cleanly, after, clean_after, Reported, Safe}
use Rattle.evaluate.proofs.EndLaws.{end-of-two, end-of-three, rest-of-two, rest-of-three, safe-index}
use Rattle.evaluate.proofs.first_end.Goals as goal
use Rattle.evaluate.proofs.first_end.Goals.{Start}

module _ (s : Start) where
  abbrev n : ℕ
  n = length s.args.records.now

  abbrev SafeAt : ℕ → Type 0
  SafeAt = Safe (rounding_of s.args.even) s.args.m.count n (s.args.x ∷ []) (at s.args.records.now)

  abbrev number : ℕ → ℤ
  number = worked (rounding_of s.args.even) s.args.k s.args.x (at s.args.records.now)

  safe : (o i : ℕ) → o < s.args.m.count → s.args.p + o * s.args.order ≡ i → SafeAt i × (i < n)
  safe o i l e =
      let h = subst SafeAt e (s.requires.by_index o l) in
      (h, safe-index (rounding_of s.args.even) s.args.m.count n (s.args.x ∷ []) (at s.args.records.now) i (omega arith) h)

  safe-low : SafeAt s.args.p × (s.args.p < n)
  safe-low = let h = s.requires.prepared.0.m-low in safe 0 s.args.p (omega arith) (omega arith)

  safe-next : SafeAt (s.args.p + s.args.order) × (s.args.p + s.args.order < n)
  safe-next = let h = s.requires.prepared.0.m-low in safe 1 (s.args.p + s.args.order) (omega arith) (omega arith)

  three : (s.args.m.count ≡ 2 → ⊥) → s.args.m.count ≡ 3
  three e = let h = s.requires.prepared.0 in omega (arith, h.m-low, h.m-high)

  safe-third : (s.args.m.count ≡ 2 → ⊥) → SafeAt (s.args.p + 2 * s.args.order) × (s.args.p + 2 * s.args.order < n)
  safe-third e = let h = three e in safe 2 (s.args.p + 2 * s.args.order) (omega arith) (omega arith)

  abbrev keeps : ℕ → Bool
  keeps = cleanly s.args.m.count s.args.k s.args.x (at s.args.records.now) (λ i. true)

  -- what is reported of the number at an index
  reads : (i : ℕ) (r : Rounded)
      → Reported (rounding_of s.args.even) s.args.m.count s.args.k s.args.x [] (at s.args.records.now) i r
      → mag r.number < 2 ^ 63 → (to_z w64 (of_z w64 r.number) ≡ number i) × (eqb r.rest 0 ≡ keeps i)
  unfolding after clean_after
  reads i r h ok = (read r.number ok ∙ h.number_is, h.rest-is)

pub returns-then-m-eq2 : goal.returns-then-m-eq2
returns-then-m-eq2 c =
    let d = c in
    let s = d.before.before.before.before.before.before.before.before in
    let u = d.first-a in
    let v = d.first-b in
    let a = reads s s.args.p u.result u.ensures c.struct_told-1.given.0.1 in
    let b = reads s (s.args.p + s.args.order) v.result v.ensures c.struct_told-then-m-eq2-1.given.0.1 in record {
      end = end-of-two s.args.m.count (number s) s.args.p s.args.order _ _ a.0 b.0 d.if-m-eq2.true;
      rest_value = rest-of-two s.args.m.count
          (keeps s) s.args.p s.args.order u.result.rest v.result.rest a.1 b.1 d.if-m-eq2.true;
    }

pub returns : goal.returns
returns c =
    let d = c in
    let e = d in
    let s = e.before.before.before.before.before.before.before.before.before.before.before in
    let u = e.first-a in
    let v = e.first-b in
    let w = d.first-c in
    let t = c in
    let a = reads s s.args.p u.result u.ensures c.struct_told-2-1.given.0.1 in
    let b = reads s (s.args.p + s.args.order) v.result v.ensures c.struct_told-3-1.given.0.1 in
    let f = reads s (s.args.p + 2 * s.args.order) w.result w.ensures c.struct_told-4-1.given.0.1 in
    let m3 = three s d.if-m-eq2.false in record {
      end = end-of-three s.args.m.count (number s) s.args.p s.args.order _ _ a.0 b.0 m3 _ f.0;
      rest_value = rest-of-three s.args.m.count (keeps s) s.args.p s.args.order u.result.rest v.result.rest a.1 b.1 m3
          w.result.rest f.1;
    }

pub first-a-requires : goal.first-a-requires
first-a-requires c = record { prepared = c.requires.prepared; safe = (safe-low c).0 }

pub overflow_add-p : goal.overflow_add-p
overflow_add-p c = let h = (safe-next c.before).1 in omega arith

pub first-b-requires : goal.first-b-requires
first-b-requires c = let s = c.before in record { prepared = s.requires.prepared; safe = (safe-next s).0 }

pub overflow_mul-order : goal.overflow_mul-order
overflow_mul-order c = let h = (safe-third c.before.before.before.before c.if-m-eq2.false).1 in omega arith

pub overflow_add-p-2 : goal.overflow_add-p-2
overflow_add-p-2 c = let h = (safe-third c.before.before.before.before c.if-m-eq2.false).1 in omega arith

pub first-c-requires : goal.first-c-requires
first-c-requires c = let s = c.before.before.before.before in record
    { prepared = s.requires.prepared; safe = (safe-third s c.if-m-eq2.false).0 }
