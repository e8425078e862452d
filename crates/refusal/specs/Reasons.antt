-- The reasons, with the number and the name of each.
use Rattle.std.specs.Prelude.{ℕ, List, codes}
use Rattle.refusal.specs.declared.Reason.{Reason}
use Rattle.refusal.specs.declared.Reason.TheVariants.{Turn, Shape, Scratch, Map, Kind, Place, Taken, Range, Float, Weight}

-- a reason's number, and the bytes of its name
pub record Entry : Type 0 where
  pub number : ℕ
  pub name : List ℕ

abbrev pub entry_of : Reason → Entry
entry_of Turn = record { number = 1; name = codes "TURN" }
entry_of Shape = record { number = 2; name = codes "SHAPE" }
entry_of Scratch = record { number = 3; name = codes "SCRATCH" }
entry_of Map = record { number = 4; name = codes "MAP" }
entry_of Kind = record { number = 5; name = codes "KIND" }
entry_of Place = record { number = 6; name = codes "PLACE" }
entry_of Taken = record { number = 7; name = codes "TAKEN" }
entry_of Range = record { number = 8; name = codes "RANGE" }
entry_of Float = record { number = 9; name = codes "FLOAT" }
entry_of Weight = record { number = 10; name = codes "WEIGHT" }

abbrev pub number_of : Reason → ℕ
number_of r = (entry_of r).number

abbrev pub name_of : Reason → List ℕ
name_of r = (entry_of r).name
