-- `put_file` meets its contract: the sections one after the other are the file.
use mathlib.Core.List.{[]}
use Prim.Native.Nat.{◌≤◌}
use native.Mathlib.Omega.{arith}
use lib.ListN.{length}
use Rattle.table_file.specs.Answers.{with_steps}
use Rattle.table_file.proofs.WriteLaws.{length-file, file-put}
use Rattle.table_file.proofs.put_file.Goals as goal

pub returns : goal.returns
returns c =
    let a = c.args in
    let h = with_steps a.header [] in
    let few : a.header.axes ≤ length a.header.counts = omega arith in
    record {
      value = omega (arith, c.three_numbers.ensures.0, length-file h a.samples.now few);
      bytes_after = file-put h a.samples.now few a.bytes.now c.requires.2 c.put_one.ensures c.put_two.ensures c.put_three.ensures;
    }
