-- What the answers of checks and calls say, in the model's terms.
use Rattle.std.specs.Prelude.{ℕ, Bool, true, false}
use Rattle.std.specs.Prelude.{Result, Ok, Err}
use Rattle.model.specs.Call.{Answer, given, refused}
use Rattle.checks.specs.declared.Refusal.{Refusal}
use Rattle.checks.specs.declared.Refusal.TheVariants.{NoHeader, WrongEdition, ZeroCount, WrongLength, SetMoves, NodeForm, PayloadRange, Attachment, MissingMove, ChanceWeights, PathLength, EmptySet, Recall, PlanLength, PlanForm, PlanUnfit, Number, Room, SheetForm, NoOdds, NoDenominator}

-- a refusal's number: the game file's checks are 1 to 13, the plan file's 14 to 16, those of what is given and lent 17 and 18, the play sheet's 19 to 21
abbrev pub refusal_number : Refusal → ℕ
refusal_number NoHeader = 1
refusal_number WrongEdition = 2
refusal_number ZeroCount = 3
refusal_number WrongLength = 4
refusal_number SetMoves = 5
refusal_number NodeForm = 6
refusal_number PayloadRange = 7
refusal_number Attachment = 8
refusal_number MissingMove = 9
refusal_number ChanceWeights = 10
refusal_number PathLength = 11
refusal_number EmptySet = 12
refusal_number Recall = 13
refusal_number PlanLength = 14
refusal_number PlanForm = 15
refusal_number PlanUnfit = 16
refusal_number Number = 17
refusal_number Room = 18
refusal_number SheetForm = 19
refusal_number NoOdds = 20
refusal_number NoDenominator = 21

-- a check's answer, by its refusal and its test; a refusal may also be a number, or anything else that says why
abbrev pub checked_of : {E : Type 0} → E → Bool → Result (Unit {0}) E
checked_of e true = Ok tt
checked_of e false = Err e

-- an answer as the model has it: what is given, as it is seen there, or the refusal's number
abbrev pub answered : {A B : Type 0} → (A → B) → Result A Refusal → Answer B
answered seen (Ok x) = given (seen x)
answered seen (Err e) = refused (refusal_number e)

-- the number of an answer's refusal, or 0
abbrev pub number_of : {A : Type 0} → Result A Refusal → ℕ
number_of (Ok x) = 0
number_of (Err e) = refusal_number e
