-- The first bytes of a text do not end in the line `accepted`: of all words that are printed only this one has a c.
use Prim.Native.Nat.{ℕ, zero, suc, ◌+◌, ◌/◌, ◌%◌, ◌≤◌, ◌<◌}
use mathlib.Core.Path.{◌≡◌, refl, sym, ap, ◌∙◌}
use mathlib.Core.Bool.{Bool, true, false, cond}
use mathlib.Core.List.{List, [], ◌∷◌, ◌++◌, flat_map}
use native.Mathlib.Omega.{arith}
use native.Mathlib.Decide.{dec_lt}
use lib.Dec.{eqb, ltb}
use lib.IntN.{ℤ, pos, nat_abs}
use lib.Signed.{lt_z}
use lib.ListN.{length, get_or, take, length-append, length-take, get_or-append}
use lib.Seq.{get_or-take, get_or-append-add}
use borrow.Author.Tests.{eqb-true, eqb-false}
use Rattle.algebra.proofs.Tests.{true→T}
use Rattle.algebra.proofs.Elements.{Every, every_append}
use Rattle.model.specs.Game.{Game, game_of, Player, one, two, player_number}
use Rattle.model.specs.Sequences.{Move}
use Rattle.model.specs.Plan.{PlanPair, plan_pair_of}
use Rattle.model.specs.Checks.{pair_refusal}
use Rattle.model.specs.Earnings.{Fraction, ◌over◌, value_base}
use Rattle.model.specs.Verdict.{Verdict, equilibrium, deviation, verdict}
use Rattle.model.specs.Report.{ascii, digits_in, decimal, signed_decimal, amount, line, move_line, value_line, best_line, verdict_lines, report, refusal_line_of, report_of, printed}
use Rattle.model.specs.CutTexts.{LineIsLast, WordIsTrue}

-- not a c
abbrev Other : ℕ → Type 0
Other x = ¬ (x ≡ 99)

-- no byte is a c
record Free (l : List ℕ) : Type 0 where
  others : Every Other l

none : Free []
none = record { others = λ i v. absurd (omega arith) }

one_byte : {x : ℕ} → Other x → Free (x ∷ [])
one_byte {x} o = record { others = at }
  where
    at : (i : ℕ) → i < length (x ∷ []) → Other (get_or (x ∷ []) i 0)
    at zero v = o
    at (suc i) v = absurd (omega arith)

infixl 5 ◌and◌
◌and◌ : {a b : List ℕ} → Free a → Free b → Free (a ++ b)
◌and◌ {a} {b} f h = record { others = every_append Other a b f.others h.others }

-- words, by their letters
free : List ℕ → Bool
free [] = true
free (x ∷ l) = cond (eqb x 99) false (free l)

letters : (l : List ℕ) → free l ≡ true → Free l
unfolding free
letters [] e = none
letters (x ∷ l) e = first (eqb x 99) refl e (λ h. letters l h)
  where
    first : (b : Bool) → eqb x 99 ≡ b → cond b false (free l) ≡ true → (free l ≡ true → Free l) → Free (x ∷ l)
    first true t h rest = absurd (true→T false h)
    first false t h rest = one_byte (eqb-false x 99 t) and rest h

-- one of two texts
either : (b : Bool) {x y : List ℕ} → Free x → Free y → Free (cond b x y)
either true f h = f
either false f h = h

-- numbers
digit : (n : ℕ) → Free ((48 + n % 10) ∷ [])
digit n = one_byte (λ e. omega arith)

digits : (steps n : ℕ) → Free (digits_in steps n)
unfolding digits_in
digits zero n = none
digits (suc steps) n = either (ltb n 10) none (digits steps (n / 10)) and digit n

number : (n : ℕ) → Free (decimal n)
unfolding decimal
number n = digits (suc n) n

shown : (a : Fraction) → Free (amount a)
unfolding amount signed_decimal ascii free
shown a =
    let z = a.numerator in
    either (lt_z z (pos 0)) (letters (ascii "-") refl) none and number (nat_abs z) and letters (ascii " of ") refl and number a.denominator

feed : Free (ascii "\n")
unfolding ascii free
feed = letters (ascii "\n") refl

-- the line of an amount
amount_line_lem : (p : Player) (a : Fraction) {word between : List ℕ} → Free word → Free between → Free (line (word ++ decimal (player_number p) ++ between ++ amount a))
unfolding line
amount_line_lem p a f h = f and number (player_number p) and h and shown a and feed

move_lines : (moves : List Move) → Free (flat_map move_line moves)
unfolding flat_map move_line line ascii free
move_lines [] = none
move_lines (x ∷ moves) = letters (ascii "set ") refl and number x.0 and letters (ascii " move ") refl and number x.1 and feed and move_lines moves

refused : (k : ℕ) → Free (refusal_line_of k)
unfolding refusal_line_of line ascii free
refused k = letters (ascii "refusal ") refl and number k and feed

-- the deviation
deviates : (g : Game) (q : PlanPair) (p : Player) (z : ℤ) (moves : List Move) → Free (verdict_lines g q (deviation p z moves))
unfolding verdict_lines ascii free
deviates g q p z moves = amount_line_lem p (z over value_base g q) (letters (ascii "deviation player ") refl) (letters (ascii " gain ") refl) and move_lines moves

-- the four lines before the verdict's
values : Game → PlanPair → List ℕ
values g q = value_line g q one ++ value_line g q two ++ best_line g q one ++ best_line g q two

values_free : (g : Game) (q : PlanPair) → Free (values g q)
unfolding values value_line best_line ascii free
values_free g q = amount_line_lem one _ value space and amount_line_lem two _ value space and amount_line_lem one _ best space and amount_line_lem two _ best space
  where
    value : Free (ascii "value ")
    value = letters (ascii "value ") refl

    best : Free (ascii "best ")
    best = letters (ascii "best ") refl

    space : Free (ascii " ")
    space = letters (ascii " ") refl

-- Where a text can have the word: nowhere, or at its end alone, where nobody can gain.
data Place (game plan : List ℕ) : Type 0 where
  nowhere : Free (printed game plan) → Place game plan
  last : pair_refusal game plan ≡ 0 → verdict (game_of game) (plan_pair_of (game_of game) plan) ≡ equilibrium → (before : List ℕ) → Free before → printed game plan ≡ before ++ line (ascii "accepted") → Place game plan

place_of : (game plan : List ℕ) → Place game plan
unfolding printed report_of report values verdict_lines
place_of game plan = judged (eqb (pair_refusal game plan) 0) refl (verdict g q) refl
  where
    g : Game
    g = game_of game

    q : PlanPair
    q = plan_pair_of g plan

    judged : (b : Bool) → eqb (pair_refusal game plan) 0 ≡ b → (v : Verdict) → verdict g q ≡ v → Place game plan
    judged false e v f = nowhere (rw e (refused (pair_refusal game plan)))
    judged true e equilibrium f = last (eqb-true _ _ e) f (values g q) (values_free g q) (rw (e, f))
    judged true e (deviation p z moves) f = nowhere (rw (e, f) (values_free g q and deviates g q p z moves))

module _ (text : List ℕ) (k : ℕ) (before rest : List ℕ) (ends : take k text ≡ before ++ (97 ∷ 99 ∷ rest)) where
  -- so many bytes are there
  size : (length before + suc (suc (length rest)) ≤ length text) × (length before + suc (suc (length rest)) ≤ k)
  size = let e = ap length ends in (omega (arith, e, length-take k text, length-append before (97 ∷ 99 ∷ rest)), omega (arith, e, length-take k text, length-append before (97 ∷ 99 ∷ rest)))

  -- the second of the last is a c
  c_is_there : get_or text (length before + 1) 0 ≡ 99
  c_is_there = sym (get_or-take k text (length before + 1) 0 (omega (arith, size))) ∙ ap (λ (l : List ℕ). get_or l (length before + 1) 0) ends ∙ get_or-append-add before (97 ∷ 99 ∷ rest) 1 0

  -- so not where no byte is
  never : Free text → ⊥
  never f = f.others (length before + 1) (omega (arith, size)) c_is_there

  -- nor where the first one comes later
  too_early : (first later : List ℕ) → Free first → text ≡ first ++ (97 ∷ later) → length before < length first → ⊥
  too_early first later f e l =
      elim (dec_lt (length before + 1) (length first)) [
        | yes v ↦ f.others (length before + 1) v (sym (get_or-append first (97 ∷ later) 0 (length before + 1) v) ∙ sym (ap (λ (l : List ℕ). get_or l (length before + 1) 0) e) ∙ c_is_there)
        | no v ↦
            let s : length before + 1 ≡ length first + 0 = omega arith in
            let h : ◌≡◌ {A = ℕ} 97 99 = sym (get_or-append-add first (97 ∷ later) 0 0) ∙ sym (ap (λ (l : List ℕ). get_or l (length first + 0) 0) e) ∙ ap (λ (i : ℕ). get_or text i 0) (sym s) ∙ c_is_there in
            omega arith
      ]

pub line_is_last : LineIsLast
unfolding ascii line
line_is_last game plan k l ends =
    elim (place_of game plan) [
      | nowhere f ↦ never _ k ends.0 _ ends.1 f
      | last r v first f t ↦ too_early _ k ends.0 _ ends.1 first _ f t (omega (arith, size _ k ends.0 _ ends.1, ap length t, length-append first (line (ascii "accepted"))))
    ]

pub word_is_true : WordIsTrue
unfolding ascii
word_is_true game plan k ends =
    elim (place_of game plan) [
      | nowhere f ↦ absurd (never _ k ends.0 _ ends.1 f)
      | last r v first f t ↦ (r, v)
    ]
