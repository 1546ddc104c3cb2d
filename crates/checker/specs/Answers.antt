-- The documents' number and values of each answer of the checker.
use Rattle.std.specs.Prelude.{[], ◌∷◌, ℕ, Result, Ok, Err}
use Rattle.calculus.specs.Limits.{CUT_SHORT, UNKNOWN_COMMAND, NO_FORMULA, OTHER_CONNECTIVE, NOT_CLOSED, BYTES_AFTER, NOT_EQUAL}
use Rattle.calculus.specs.Reply.{Reply}
use Rattle.question.specs.Answers.{number_of, place_of}
use Rattle.checker.specs.declared.Fault.{Fault}
use Rattle.checker.specs.declared.Fault.TheVariants.{CutShort, UnknownCommand, NoFormula, OtherConnective, NotClosed, BytesAfter, NotEqual}
use Rattle.checker.specs.declared.NotPassed.{NotPassed}
use Rattle.checker.specs.declared.NotPassed.TheVariants.{Refused, Faulty}

abbrev pub fault_number : Fault → ℕ
fault_number (CutShort at) = CUT_SHORT
fault_number (UnknownCommand at) = UNKNOWN_COMMAND
fault_number (NoFormula at) = NO_FORMULA
fault_number (OtherConnective at) = OTHER_CONNECTIVE
fault_number (NotClosed at) = NOT_CLOSED
fault_number (BytesAfter at) = BYTES_AFTER
fault_number (NotEqual at) = NOT_EQUAL

abbrev pub fault_place : Fault → ℕ
fault_place (CutShort at) = at
fault_place (UnknownCommand at) = at
fault_place (NoFormula at) = at
fault_place (OtherConnective at) = at
fault_place (NotClosed at) = at
fault_place (BytesAfter at) = at
fault_place (NotEqual at) = at

-- "without a refusal the checker answers only that the derivation passes"
abbrev pub check_of : Result Unit NotPassed → Reply
check_of (Ok u) = record { number = 0; values = [] }
check_of (Err (Refused r)) = record { number = number_of r; values = place_of r ∷ [] }
check_of (Err (Faulty f)) = record { number = fault_number f; values = fault_place f ∷ [] }
