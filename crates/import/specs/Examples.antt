-- Examples, one table: what texts give as samples of a table on one axis.
use Rattle.std.specs.Prelude.{◌≡◌, false, List, [], ◌∷◌, map, ℕ, ℤ, pos, negsuc}
use Prim.Native.Char.{code}
use Prim.Native.String.{String, [] as none, ◌∷◌ as ◌then◌}
use Rattle.lattice.specs.Outcome.{Outcome, done, refused, first}
use Rattle.lattice.specs.Shape.{shape_of, full_shape}
use Rattle.import.specs.Import.{import_outcome, samples_of}

-- the bytes of a text in ASCII
unfoldable pub ascii : String → List ℕ
ascii none = []
ascii (c then s) = code c ∷ ascii s

-- the samples of a table of `count` nodes and `steps` steps, into a slice of `room`
unfoldable pub imported : ℕ → ℕ → ℕ → String → Outcome (List ℤ)
imported count steps room text =
    first (import_outcome (full_shape (shape_of 1 3 (count ∷ 1 ∷ 1 ∷ [])) (steps ∷ 1 ∷ 1 ∷ []) false) (ascii text) room)
    (done (samples_of (ascii text)))

-- ---- rows

pub record Row : Type 0 where
  pub computed : Outcome (List ℤ)
  pub printed : Outcome (List ℤ)

-- of two nodes
infix 3 ◌gives◌
abbrev pub ◌gives◌ : String → List ℤ → Row
text gives xs = record { computed = imported 2 256 2 text; printed = done xs }

infix 3 ◌refused_as◌at_place◌
abbrev pub ◌refused_as◌at_place◌ : String → ℕ → ℕ → Row
text refused_as number at_place place = record { computed = imported 2 256 2 text; printed = refused number place }

-- every row computes what is printed
abbrev pub AllRows : List Row → Type 0
AllRows rows = map (λ (r : Row). r.computed) rows ≡ map (λ (r : Row). r.printed) rows

unfoldable pub table : List Row
table =
    ("5e-1 0.5" gives pos 50 ∷ pos 50 ∷ [])
    ∷ ("-0 0e99" gives pos 0 ∷ pos 0 ∷ [])
    ∷ ("-12.50E+1 0e-400" gives negsuc 12499 ∷ pos 0 ∷ [])
    -- 1 and 58 zeros
    ∷ ("0 10000000000000000000000000000000000000000000000000000000000e-58" gives pos 0 ∷ pos 100 ∷ [])
    -- separators
    ∷ ("\t\r\n 1\n\n2 \r" gives pos 100 ∷ pos 200 ∷ [])
    -- the limit, and beyond it
    ∷ ("327.68 -327.68" gives pos 32768 ∷ negsuc 32767 ∷ [])
    ∷ ("0 327.69" refused_as 5 at_place 1)
    ∷ ("1e400 0" refused_as 5 at_place 0)
    -- no whole number of units
    ∷ ("0.001 0" refused_as 18 at_place 0)
    ∷ ("0 1e-400" refused_as 18 at_place 2)
    -- no number
    ∷ ("01 0" refused_as 17 at_place 0)
    ∷ ("0 +1" refused_as 17 at_place 2)
    ∷ ("0 1." refused_as 17 at_place 2)
    ∷ ("0 .5" refused_as 17 at_place 2)
    ∷ ("0 1e" refused_as 17 at_place 2)
    ∷ ("0 1e+" refused_as 17 at_place 2)
    ∷ ("0 -" refused_as 17 at_place 2)
    -- a vertical tab belongs to a token
    ∷ ("0 1\u{b}1" refused_as 17 at_place 2)
    -- 64 bytes and 65
    ∷ ("0 0000000000000000000000000000000000000000000000000000000000000000" refused_as 17 at_place 2)
    ∷ ("0 00000000000000000000000000000000000000000000000000000000000000000" refused_as 16 at_place 2)
    -- token by token, after 4 and 9
    ∷ ("327.69 01" refused_as 5 at_place 0)
    ∷ ("" refused_as 4 at_place 0)
    ∷ ("01 0 0" refused_as 4 at_place 0)
    ∷ record { computed = imported 2 256 1 "01 0"; printed = refused 9 0 }
    -- 26 after 3 and before 4
    ∷ record { computed = imported 1 24 2 ""; printed = refused 3 0 }
    ∷ record { computed = imported 2 24 2 ""; printed = refused 26 0 }
    ∷ record { computed = imported 2 16 2 "1 2"; printed = done (pos 100 ∷ pos 200 ∷ []) }
    ∷ []
