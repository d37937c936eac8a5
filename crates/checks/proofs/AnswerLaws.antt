-- Laws of answers: what an `Ok` and an `Err` say of the refusal's number, and the other way.
use Prim.Native.Nat.{ℕ, zero, suc}
use mathlib.Core.Path.{◌≡◌, refl, sym, ap, ◌∙◌}
use mathlib.Core.List.{List, [], ◌∷◌}
use Rattle.std.specs.Prelude.{Result, Ok, Err, get_or, pred, IsErrAnd}
use Rattle.std.proofs.lemmas.Result.{err_from_is_err_and}
use Rattle.model.specs.Call.{given, refused, answer_of}
use Rattle.checks.specs.declared.Refusal.{Refusal}
use Rattle.checks.specs.Answers.{refusal_number, answered, number_of}
use Rattle.checks.proofs.Chains.{number_some}

-- the refusals in the order of their numbers
abbrev in_order : List Refusal
in_order = Refusal.NoHeader ∷ Refusal.WrongEdition ∷ Refusal.ZeroCount ∷ Refusal.WrongLength ∷ Refusal.SetMoves ∷ Refusal.NodeForm ∷ Refusal.PayloadRange ∷ Refusal.Attachment ∷ Refusal.MissingMove ∷ Refusal.ChanceWeights ∷ Refusal.PathLength ∷ Refusal.EmptySet ∷ Refusal.Recall ∷ Refusal.PlanLength ∷ Refusal.PlanForm ∷ Refusal.PlanUnfit ∷ Refusal.Number ∷ Refusal.Room ∷ Refusal.SheetForm ∷ Refusal.NoOdds ∷ Refusal.NoDenominator ∷ []

abbrev refusal_at : ℕ → Refusal
refusal_at n = get_or in_order (pred n) Refusal.NoHeader

at_number : (e : Refusal) → refusal_at (refusal_number e) ≡ e
at_number Refusal.NoHeader = refl
at_number Refusal.WrongEdition = refl
at_number Refusal.ZeroCount = refl
at_number Refusal.WrongLength = refl
at_number Refusal.SetMoves = refl
at_number Refusal.NodeForm = refl
at_number Refusal.PayloadRange = refl
at_number Refusal.Attachment = refl
at_number Refusal.MissingMove = refl
at_number Refusal.ChanceWeights = refl
at_number Refusal.PathLength = refl
at_number Refusal.EmptySet = refl
at_number Refusal.Recall = refl
at_number Refusal.PlanLength = refl
at_number Refusal.PlanForm = refl
at_number Refusal.PlanUnfit = refl
at_number Refusal.Number = refl
at_number Refusal.Room = refl
at_number Refusal.SheetForm = refl
at_number Refusal.NoOdds = refl
at_number Refusal.NoDenominator = refl

-- no two refusals have one number, so a number tells the refusal
pub numbers_apart : {d e : Refusal} → refusal_number d ≡ refusal_number e → d ≡ e
numbers_apart {d} {e} n = sym (at_number d) ∙ ap refusal_at n ∙ at_number e

-- a check's answer, or several checks', by its number
pub number_ok : {A : Type 0} {r : Result A Refusal} {n : ℕ} {x : A} → number_of r ≡ n → r ≡ Ok x → n ≡ 0
number_ok e f = sym e ∙ ap number_of f

pub number_err : {A : Type 0} {r : Result A Refusal} {n : ℕ} {d : Refusal} → number_of r ≡ n → r ≡ Err d → n ≡ refusal_number d
number_err e f = sym e ∙ ap number_of f

-- an answer that gives something
pub gives : {A B : Type 0} (seen : A → B) {r : Result A Refusal} (n : ℕ) (b : B) {x : A} → answered seen r ≡ answer_of n b → r ≡ Ok x → (n ≡ 0) × (seen x ≡ b)
gives seen zero b {x} e f = let same : given (seen x) ≡ given b = ap (answered seen) (sym f) ∙ e in (refl, cc)
gives seen (suc n) b {x} e f = let same : given (seen x) ≡ refused (suc n) = ap (answered seen) (sym f) ∙ e in absurd cc

-- an answer that refuses
pub refuses : {A B : Type 0} (seen : A → B) {r : Result A Refusal} (n : ℕ) (b : B) {d : Refusal} → answered seen r ≡ answer_of n b → r ≡ Err d → n ≡ refusal_number d
refuses seen zero b {d} e f = let same : refused (refusal_number d) ≡ given b = ap (answered seen) (sym f) ∙ e in absurd cc
refuses seen (suc n) b {d} e f = let same : refused (refusal_number d) ≡ refused (suc n) = ap (answered seen) (sym f) ∙ e in cc

-- the other way
pub given_is : {A B : Type 0} (seen : A → B) (n : ℕ) (b : B) (x : A) → n ≡ 0 → seen x ≡ b → answered seen (Ok x) ≡ answer_of n b
given_is seen n b x z e = rw (z, e)

pub refused_is : {A B : Type 0} (seen : A → B) (n : ℕ) (b : B) (d : Refusal) → n ≡ refusal_number d → answered seen (Err d) ≡ answer_of n b
refused_is seen zero b d z = absurd (number_some d (sym z))
refused_is seen (suc n) b d z = rw z

-- what a `?` passes on is the refusal that it had
pub passed_on : {A : Type 0} {r : Result A Refusal} {d : Refusal} → IsErrAnd r (λ e. e ≡ d) → r ≡ Err d
passed_on {r = r} s = let p = err_from_is_err_and r s in p.1 ∙ ap Err p.2
