-- Each return is one case of the definition.
use mathlib.Core.Path.{◌≡◌, ◌∙◌}
use mir.Syntax.{w64}
use mir.Val.{to_z, of_z}
use mir.Facts.{to_z-of_z}
use Rattle.judgement.specs.Judgement.{gain_of}
use Rattle.judgement.proofs.Judgement.{first_gains, second_gains, none_gains}
use Rattle.judgement.proofs.judge.Goals as goal
use Rattle.judgement.proofs.judge.Goals.{After-gain-gain1, After-gain-gain2}

-- player 1's gain, as it is read back
gain1_is : (c : After-gain-gain1) → let a = c.args in to_z w64 (of_z w64 c.gain-gain1.result) ≡ gain_of a.d1 a.best1 a.value1
gain1_is c = to_z-of_z {w = w64} {z = c.gain-gain1.result} (record { sfits = c.gain-gain1.type_inv }) ∙ rw (to_z-of_z c.ranges.best1, to_z-of_z c.ranges.value1) at c.gain-gain1.ensures

-- and player 2's
gain2_is : (c : After-gain-gain2) → let a = c.args in to_z w64 (of_z w64 c.gain-gain2.result) ≡ gain_of a.d2 a.best2 a.value2
gain2_is c = to_z-of_z {w = w64} {z = c.gain-gain2.result} (record { sfits = c.gain-gain2.type_inv }) ∙ rw (to_z-of_z c.ranges.best2, to_z-of_z c.ranges.value2) at c.gain-gain2.ensures

pub returns-then-gain1-gt0 : goal.returns-then-gain1-gt0
returns-then-gain1-gt0 c =
    let a = c.args in
    first_gains a.value1 a.value2 a.best1 a.best2 a.d1 a.d2 _ (gain1_is (goal.at.returns-then-gain1-gt0 c).After-gain-gain1) c.if-gain1-gt0.true

pub returns-then-gain2-gt0 : goal.returns-then-gain2-gt0
returns-then-gain2-gt0 c =
    let a = c.args in
    second_gains a.value1 a.value2 a.best1 a.best2 a.d1 a.d2 _ _ (gain1_is (goal.at.returns-then-gain2-gt0 c).After-gain-gain1) (gain2_is (goal.at.returns-then-gain2-gt0 c).After-gain-gain2) c.if-gain1-gt0.false c.if-gain2-gt0.true

pub returns : goal.returns
returns c =
    let a = c.args in
    none_gains a.value1 a.value2 a.best1 a.best2 a.d1 a.d2 _ _ (gain1_is (goal.at.returns c).After-gain-gain1) (gain2_is (goal.at.returns c).After-gain-gain2) c.if-gain1-gt0.false c.if-gain2-gt0.false
