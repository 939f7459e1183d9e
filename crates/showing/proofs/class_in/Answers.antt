use native.Mathlib.Omega.{arith}
use Rattle.showing.proofs.ShowingLaws.{class-behind, class-here}
use Rattle.showing.proofs.class_in.Goals as goal

pub returns-then-id-gt576460752303423487 : goal.returns-then-id-gt576460752303423487
returns-then-id-gt576460752303423487 c = class-behind _ _ _ (omega arith)

pub returns-then-classes-at : goal.returns-then-classes-at
returns-then-classes-at c = class-behind _ _ _ (omega arith)

pub returns : goal.returns
returns c = class-here _ _ _ _ (omega arith)
