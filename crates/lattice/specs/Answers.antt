-- The outcome for each result of the code: what it gives, or the number and place of document 01.
use Rattle.std.specs.Prelude.{ℕ, Option, Some, None, Result, Ok, Err}
use Rattle.lattice.specs.Outcome.{Outcome, Check, done, refused}
use Rattle.lattice.specs.declared.refusal.Reason.{Reason}
use Rattle.lattice.specs.declared.refusal.Refusal.{Refusal}
use Rattle.lattice.specs.declared.refusal.Reason.TheVariants.{Axes, Degree, NodeCount, Length, BeyondLimit, FileEndsEarly, FileLeftOver, FileSampleCount, BufferTooShort, NotFinite, PositionBeyond, SlopeAxis, NoCornerRecords, CellIndex, CoefficientCount, TokenTooLong, TokenGrammar, TokenNotWhole, BeyondEstimateLimit, RampLength, CurvatureDegree, PositionBelowZero, PositionUnusedAxis, PowersShape, FileEdition, StepNumber, ShapesDiffer, PoolWeights, BoxIndex, KeyRight}

-- the number of a refusal
abbrev pub number_of : Reason → ℕ
number_of Axes = 1
number_of Degree = 2
number_of NodeCount = 3
number_of Length = 4
number_of BeyondLimit = 5
number_of FileEndsEarly = 6
number_of FileLeftOver = 7
number_of FileSampleCount = 8
number_of BufferTooShort = 9
number_of NotFinite = 10
number_of PositionBeyond = 11
number_of SlopeAxis = 12
number_of NoCornerRecords = 13
number_of CellIndex = 14
number_of CoefficientCount = 15
number_of TokenTooLong = 16
number_of TokenGrammar = 17
number_of TokenNotWhole = 18
number_of BeyondEstimateLimit = 19
number_of RampLength = 20
number_of CurvatureDegree = 21
number_of PositionBelowZero = 22
number_of PositionUnusedAxis = 23
number_of PowersShape = 24
number_of FileEdition = 25
number_of StepNumber = 26
number_of ShapesDiffer = 27
number_of PoolWeights = 28
number_of BoxIndex = 29
number_of KeyRight = 30

module _ {A : Type 0} where
  abbrev pub outcome_of : Result A Refusal → Outcome A
  outcome_of (Ok a) = done a
  outcome_of (Err r) = refused (number_of r.reason) r.place

-- a refusal at an index, if there is one
abbrev pub refused_at : ℕ → Option ℕ → Check
refused_at number None = done tt
refused_at number (Some i) = refused number i
