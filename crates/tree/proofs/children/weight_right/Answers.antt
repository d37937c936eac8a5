-- `children::weight_right` meets its contract: its tests are those of the model's, and what is inherited is asked last.
use Prim.Native.Nat.{ℕ, ◌<◌}
use mathlib.Core.Path.{◌≡◌, sym, ap, ◌∙◌}
use native.Mathlib.Omega.{arith}
use Rattle.model.specs.Game.{Game}
use Rattle.model.specs.GameChecks.{children_weight, weight_inherited}
use Rattle.records.specs.declared.game_file.Kind.TheVariants as Kind
use Rattle.records.specs.Records.{kind_of}
use Rattle.records.proofs.KindNumbers.{decision_number, chance_number}
use Rattle.std.proofs.Common.{rules}
use Rattle.tree.specs.Games.{TreeIn}
use Rattle.tree.specs.Children.{weight_test}
use Rattle.tree.proofs.Parents.{kind_in, weight_in, Hangs, hangs}
use Rattle.tree.proofs.Weights.{no_weight, not_shared, only_inherited, root_inherits, child_inherits, child_free}
use Rattle.tree.proofs.children.weight_right.Goals as goal
use Rattle.tree.proofs.children.weight_right.Goals.{After-number-parent, Joined-else-eq, else-eq-via-else-eq, else-eq-via-then-eq+else-sum-weight, Else-eq-2}

pub returns-then-sum-weight : goal.returns-then-sum-weight
returns-then-sum-weight c = λ nodes g t l d sum.
    not_shared g _ (sym (kind_in t l) ∙ chance_number _ (sym c.kind.ensures ∙ search (rules, c.if-eq.ensures)))
    (λ e. c.if-sum-weight.true (sum ∙ e ∙ sym (weight_in t l) ∙ sym c.number-weight.ensures.0))

-- the parent is no decision
not_decision : (c : Else-eq-2) → ¬ (c.kind-2.result ≡ Kind.Decision)
not_decision c = search (rules, c.if-eq-2.ensures)

-- past the first two tests
rest : (c : Joined-else-eq) {nodes : ℕ} {g : Game} → TreeIn nodes c.args.numbers.now g → c.args.n < nodes → c.args.sum ≡ children_weight g c.args.n → weight_test g c.args.n ≡ weight_inherited g c.args.n
unfolding kind_of
rest c t l sum =
    let weight = c.number-weight.ensures.0 ∙ weight_in t l in
    only_inherited _ _ (λ e. c.if-weight-eq0.false (weight ∙ e))
    (λ e. elim c.else-eq.branch [ else-eq-via-then-eq+else-sum-weight w ↦ sym sum ∙ w.if-sum-weight.false ∙ weight | else-eq-via-else-eq w ↦ let other : ¬ (c.kind.result ≡ Kind.Chance) = search (rules, w.if-eq.ensures) in absurd (other (c.kind.ensures ∙ ap kind_of (kind_in t l ∙ e))) ])

pub returns-then-n-eq-ROOT : goal.returns-then-n-eq-ROOT
returns-then-n-eq-ROOT c = λ nodes g t l d sum. rw (c.number-weight.ensures.0 ∙ weight_in t l, d) (root_inherits g _ c.if-n-eq-ROOT.true ∙ sym (rest (goal.at.returns-then-n-eq-ROOT c).Joined-else-eq t l sum))

-- the parent that is read
up : (c : After-number-parent) {nodes : ℕ} {g : Game} → TreeIn nodes c.args.numbers.now g → c.args.n < nodes → Hangs g c.number-parent.result c.args.n
up c t l = hangs t (omega arith) l c.number-parent.ensures.0

pub number-requires : goal.number-requires
number-requires c =
    let pre = c.requires in
    let h = up (goal.at.number-requires c).After-number-parent pre.2 pre.3 in
    omega (arith, pre.2.decoded.room)

pub returns-then-eq-2 : goal.returns-then-eq-2
returns-then-eq-2 c = λ nodes g t l d sum.
    let h = up (goal.at.returns-then-eq-2 c).After-number-parent t l in
    let above : c.number-parent.result < nodes = omega arith in
    rw (c.number-weight.ensures.0 ∙ weight_in t l, c.number.ensures.0 ∙ weight_in t above)
    (child_inherits g _ c.if-n-eq-ROOT.false h.parent (sym (kind_in t above) ∙ decision_number _ (sym c.kind-2.ensures ∙ search (rules, c.if-eq-2.ensures))) ∙ sym (rest (goal.at.returns-then-eq-2 c).Joined-else-eq t l sum))

pub returns : goal.returns
unfolding kind_of
returns c = λ nodes g t l d sum.
    let h = up (goal.at.returns c).After-number-parent t l in
    let above : c.number-parent.result < nodes = omega arith in
    child_free g _ c.if-n-eq-ROOT.false h.parent (λ e. not_decision (goal.at.returns c).Else-eq-2 (c.kind-2.ensures ∙ ap kind_of (kind_in t above ∙ e))) ∙ sym (rest (goal.at.returns c).Joined-else-eq t l sum)

pub returns-then-weight-eq0 : goal.returns-then-weight-eq0
returns-then-weight-eq0 c nodes g t l d sum = no_weight g _ (sym (weight_in t l) ∙ sym c.number-weight.ensures.0 ∙ c.if-weight-eq0.true)
