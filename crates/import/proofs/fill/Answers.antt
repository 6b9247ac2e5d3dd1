-- `fill` meets its contract. The invariant: the front of the slice holds the samples of the tokens so far.
use mathlib.Core.Path.{◌≡◌, sym, ap, ap₂, ◌∙◌}
use mathlib.Core.List.{List}
use mathlib.Core.Logic.{inl}
use Prim.Native.Nat.{ℕ, ◌+◌}
use native.Mathlib.Omega.{arith}
use lib.IntN.{ℤ, pos}
use lib.ListN.{length, drop}
use Rattle.arith.proofs.Machine.{element}
use Rattle.lattice.proofs.BufferLaws.{Filled, filled_none, filled_more, filled-length, filled-all}
use Rattle.import.specs.Tokens.{token_count, tokens_from}
use Rattle.import.specs.Import.{sample_in, samples_of}
use Rattle.import.proofs.ScanLaws.{Turn, count-bytes, turn, ended}
use Rattle.import.proofs.ImportLaws.{taken-here}
use Rattle.import.proofs.fill.Invariants.{sample}
use Rattle.import.proofs.fill.Goals as goal
use Rattle.import.proofs.fill.Goals.{In-Some}

filled-as : (f : ℕ → ℤ) (old : List ℤ) {k k' : ℕ} {now : List ℤ} → k' ≡ k → Filled f old k now → Filled f old k' now
filled-as f old e h = rw e h

pub loop-k-init : goal.loop-k-init
loop-k-init c =
    let text = c.args.text.now in
    let count : c.into_iter-k-iterator.result.count ≡ 0
    = ap (λ s. s.count) c.into_iter-k-iterator.ensures.into_iter_gives ∙ c.enumerate-k-items.ensures.count in
    let source = ap (λ s. s.iter) c.into_iter-k-iterator.ensures.into_iter_gives ∙ c.enumerate-k-items.ensures.source in
    let all = ap (λ s. tokens_from s.text.now s.at) source ∙ ap₂ tokens_from c.of.ensures.0 c.of.ensures.1 in (
      (tt, tt, inl (omega (arith, count, ap length all, count-bytes text))),
      tt,
      omega (arith, count),
      all ∙ ap (λ (n : ℕ). drop n (tokens_from text 0)) (sym count),
      filled-as (sample text) c.args.samples.now count (filled_none _ _),
    )

-- the token is token k, and there is room for its sample
module _ (c : In-Some) where
  abbrev text : List ℕ
  text = c.args.text.now

  turn-k : Turn text c.in-Some.k (c.in-Some.token.start, c.in-Some.token.bytes.now)
      (tokens_from c.next.new.self.iter.text.now c.next.new.self.iter.at)
  turn-k =
      let s = c.in-Some.ensures.steps in
      turn text c.in-Some.k (c.loop-k.invariant.3 ∙ ap (λ (n : ℕ). drop n (tokens_from text 0)) (sym s.1)) s.0

  filled-k : Filled (sample text) c.args.samples.now c.in-Some.k c.loop-k.samples
  filled-k = filled-as (sample text) c.args.samples.now c.in-Some.ensures.steps.1 c.loop-k.invariant.4

  same : length c.loop-k.samples ≡ length c.args.samples.now
  same =
      let t = turn-k.counted in
      filled-length (sample text) c.args.samples.now c.in-Some.k c.loop-k.samples (omega (arith, c.requires.0)) filled-k

pub sample_of-requires : goal.sample_of-requires
sample_of-requires c =
    let t = turn-k (goal.at.sample_of-requires c).In-Some in
    taken-here c.args.text.now c.in-Some.k t.here t.counted c.requires.1

pub offset_bounds-samples-k : goal.offset_bounds-samples-k
offset_bounds-samples-k c = let t = turn-k (goal.at.offset_bounds-samples-k c).In-Some in omega (arith, t.counted, c.requires.0)

pub bounds-samples-k : goal.bounds-samples-k
bounds-samples-k c =
    let d = (goal.at.bounds-samples-k c).In-Some in
    omega (arith, (turn-k d).counted, c.requires.0, same d)

pub loop-k-preserved : goal.loop-k-preserved
loop-k-preserved c =
    let d = (goal.at.loop-k-preserved c).In-Some in
    let t = turn-k d in
    let next : c.next.new.self.count ≡ c.in-Some.k + 1 = omega (arith, c.in-Some.ensures.steps.1, c.in-Some.ensures.steps.2) in
    let old = c.args.samples.now in
    let f = sample c.args.text.now in (
      c.in-Some.ensures.goes.keeps,
      tt,
      omega (arith, next, t.counted),
      t.left ∙ ap (λ (n : ℕ). drop n (tokens_from c.args.text.now 0)) (sym next),
      filled-as f old next
          (filled_more f old c.in-Some.k c.loop-k.samples _ (pos 0) (omega (arith, t.counted, c.requires.0)) (filled-k d)
          (element _ c.sample_of.type_inv ∙ c.sample_of.ensures ∙ ap (λ (x : ℕ × List ℕ). sample_in x.1) t.here)),
    )

pub returns : goal.returns
unfolding samples_of
returns c =
    let a = c.args in
    let i = c.loop-k.invariant in
    let l = ended a.text.now c.loop-k.k-iterator.count i.3 c.in-None.ensures.steps.0.0 in
    filled-all (sample a.text.now) a.samples.now (token_count a.text.now) c.loop-k.samples
    (filled-as (sample a.text.now) a.samples.now (omega arith) i.4)
