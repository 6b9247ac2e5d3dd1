-- `Rest::samples` meets its contract: number k of the file is chunk k.
use mathlib.Core.Path.{◌∙◌}
use Prim.Native.Nat.{◌+◌}
use native.Mathlib.Omega.{arith}
use Rattle.table_file.proofs.ReadLaws.{samples-chunks, samples-are, start_is}
use Rattle.table_file.proofs.after_one.Rest.samples.Goals as goal

pub returns : goal.returns
returns c =
    let a = c.args.self in
    let k = start_is _ _ _ a.known in
    samples-chunks a.bytes.now (2 + a.axes) a.nodes _ _ c.as_chunks.ensures.front (omega (arith, c.as_chunks.ensures.front_len))
    (omega (arith, k.0, c.requires)) ∙ samples-are _ _ _ a.known

pub slice_bounds-result-end : goal.slice_bounds-result-end
slice_bounds-result-end c = omega (arith, c.as_chunks.ensures.front_len, (start_is _ _ _ c.args.self.known).0, c.requires)
