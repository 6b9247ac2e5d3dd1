-- The round trip, for all files and all permitted tables of both editions.
use mathlib.Core.Path.{◌≡◌, sym, ap, ap₂, subst, ◌∙◌}
use mathlib.Core.List.{List}
use Prim.Native.Nat.{ℕ, ◌≤◌}
use lib.IntN.{ℤ}
use lib.ListN.{length}
use Rattle.lattice.specs.Outcome.{done}
use Rattle.lattice.specs.Shape.{finest_steps}
use Rattle.table_file.specs.File.{Header, header, file_of, samples_in, read_outcome, write_outcome, AreBytes, as_read, PermittedTable}
use Rattle.table_file.proofs.TakenLaws.{taken, reads}
use Rattle.table_file.proofs.WriteLaws.{fit-writes}
use Rattle.table_file.proofs.RoundTrip.{written, writes, samples-again, header-again, taken-again}

-- writing what was read gives the file's bytes again
pub read-then-write : (bytes : List ℕ) (room space : ℕ) (h : Header) → AreBytes bytes → read_outcome bytes room ≡ done h
    → length bytes ≤ space
    → (write_outcome h (samples_in bytes) space ≡ done (length bytes)) × (file_of h (samples_in bytes) ≡ bytes)
read-then-write bytes room space h small e l =
    let t = taken bytes room h e in
    subst (λ (g : Header). (write_outcome g (samples_in bytes) space ≡ done (length bytes)) × (file_of g (samples_in bytes) ≡ bytes)) t.1
    (writes bytes room small t.0 space l, written bytes room small t.0)

-- reading what was written gives every permitted table again, but for its step numbers
pub write-then-read : (h : Header) (samples : List ℤ) (room space : ℕ) → PermittedTable h samples → length samples ≤ room
    → length (file_of h samples) ≤ space
    → (write_outcome h samples space ≡ done (length (file_of h samples))) × (read_outcome (file_of h samples) room ≡ done (as_read h))
    × (samples_in (file_of h samples) ≡ samples)
write-then-read h samples room space p r s = (
  fit-writes h samples space p s,
  reads (file_of h samples) room (taken-again h samples p room r) ∙ ap done (header-again h samples p),
  samples-again h samples p,
)

-- so one that has 256 steps on each used axis comes back whole
pub finest-whole : (h : Header) → h.steps ≡ finest_steps h.axes → as_read h ≡ h
finest-whole h e = ap (λ (ns : List ℕ). header h.axes h.counts ns h.second) (sym e)

-- no other bytes read to the same table
pub one-file : (bytes others : List ℕ) (room space : ℕ) (h : Header) → AreBytes bytes → AreBytes others
    → read_outcome bytes room ≡ done h → read_outcome others space ≡ done h → samples_in bytes ≡ samples_in others → bytes ≡ others
one-file bytes others room space h small smalls e f same =
    let t = taken bytes room h e in
    let u = taken others space h f in
    sym (written bytes room small t.0) ∙ ap₂ file_of (t.1 ∙ sym u.1) same ∙ written others space smalls u.0
