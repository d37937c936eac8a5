-- The verdict from values and best values is the model's, and its gains fit.
use Prim.Native.Nat.{ℕ}
use mathlib.Core.Path.{◌≡◌, refl, sym, ap}
use mathlib.Core.Bool.{Bool, true, false, cond}
use native.Mathlib.Omega.{arith}
use lib.IntN.{ℤ, pos, ◌-ℤ◌, ◌*ℤ◌}
use lib.Signed.{lt_z}
use mir.Syntax.{w64}
use mir.Val.{SFits, to_z, of_z}
use mir.Facts.{to_z-of_z}
use Rattle.std.specs.Prelude.{Option, Some, None}
use Rattle.model.specs.Game.{Game, Player, one, two, other}
use Rattle.model.specs.Plan.{PlanPair}
use Rattle.model.specs.Earnings.{value_count}
use Rattle.model.specs.BestResponse.{best_count, best_response}
use Rattle.model.specs.Verdict as Model
use Rattle.model.proofs.Budget.{Budget, PlanLimits}
use Rattle.loaded.specs.Players.{as_player}
use Rattle.loaded.specs.declared.Player as Code
use Rattle.loaded.specs.declared.Player.TheVariants.{One, Two}
use Rattle.judgement.specs.declared.Deviation.{Deviation}
use Rattle.judgement.specs.Judgement.{gain_of, judged, GainFits}

-- The steps to a gain, with what is read of a denominator, a best value and a value.
module _ (d : ℕ) (best value : ℤ) (F : GainFits d best value) (a b v : ℤ) (e : a ≡ pos d) (f : b ≡ best) (h : v ≡ value) where
  pub difference_fits : SFits w64 (to_z w64 (of_z w64 (a *ℤ b)) -ℤ v)
  unfolding gain_of
  difference_fits = rw (e, f, h, to_z-of_z F.scaled) F.gain

  pub gain_is : to_z w64 (of_z w64 (to_z w64 (of_z w64 (a *ℤ b)) -ℤ v)) ≡ gain_of d best value
  unfolding gain_of
  gain_is = rw (e, f, h, to_z-of_z F.scaled, to_z-of_z F.gain)

-- The deviation of a player with a gain.
abbrev pub gains : Code.Player → ℤ → Option Deviation
gains p z = Some (record { player = p; gain = z })

-- The branches of `judge`.
module _ (value1 value2 best1 best2 : ℤ) (d1 d2 : ℕ) where
  pub first_gains : (gain1 : ℤ) → gain1 ≡ gain_of d1 best1 value1 → lt_z (pos 0) gain1 ≡ true → gains One gain1 ≡ judged value1 value2 best1 best2 d1 d2
  unfolding judged
  first_gains gain1 e t = rw (← e, t)

  pub second_gains : (gain1 gain2 : ℤ) → gain1 ≡ gain_of d1 best1 value1 → gain2 ≡ gain_of d2 best2 value2 → lt_z (pos 0) gain1 ≡ false → lt_z (pos 0) gain2 ≡ true → gains Two gain2 ≡ judged value1 value2 best1 best2 d1 d2
  unfolding judged
  second_gains gain1 gain2 e f n t = rw (← e, ← f, n, t)

  pub none_gains : (gain1 gain2 : ℤ) → gain1 ≡ gain_of d1 best1 value1 → gain2 ≡ gain_of d2 best2 value2 → lt_z (pos 0) gain1 ≡ false → lt_z (pos 0) gain2 ≡ false → None ≡ judged value1 value2 best1 best2 d1 d2
  unfolding judged
  none_gains gain1 gain2 e f n m = rw (← e, ← f, n, m)

-- the player of the code that a model's player is
abbrev pub as_code : Player → Code.Player
as_code one = One
as_code two = Two

-- the model's verdict as the code has it, without the moves
abbrev pub without_moves : Model.Verdict → Option Deviation
without_moves Model.equilibrium = None
without_moves (Model.deviation p gain moves) = gains (as_code p) gain

-- a yes and a deviation are not the same
abbrev kind : Option Deviation → ℕ
kind None = 0
kind (Some d) = 1

apart : {d : Deviation} → Some d ≡ None → ⊥
apart t = let n : ◌≡◌ {A = ℕ} 1 0 = ap kind t in omega arith

module _ (g : Game) (q : PlanPair) where
  -- with the model's values and best values it is the model's verdict without the moves
  pub judged_is : judged (value_count g q one) (value_count g q two) (best_count g one (q two)) (best_count g two (q one)) (q one).denominator (q two).denominator ≡ without_moves (Model.verdict g q)
  unfolding judged gain_of Model.verdict Model.deviation_of Model.gain Model.scaled_best
  judged_is = go (lt_z (pos 0) (Model.gain g q one)) (lt_z (pos 0) (Model.gain g q two))
    where
      go : (a b : Bool) → cond a (gains One (Model.gain g q one)) (cond b (gains Two (Model.gain g q two)) None) ≡ without_moves (cond a (Model.deviation_of g q one) (cond b (Model.deviation_of g q two) Model.equilibrium))
      go true b = refl
      go false true = refl
      go false false = refl

  -- the number budget has room for both steps to a gain
  pub gains_fit : Budget g q → (p : Player) → PlanLimits (q p) → GainFits (q p).denominator (best_count g p (q (other p))) (value_count g q p)
  unfolding gain_of Model.gain Model.scaled_best
  gains_fit B p L = record { denominator_fits = L.denominator; scaled = B.scaled p; gain = B.gains p }

  -- where nobody can gain, that is the model's yes
  pub says_equilibrium : without_moves (Model.verdict g q) ≡ None → Model.verdict g q ≡ Model.equilibrium
  says_equilibrium e = go (Model.verdict g q) e
    where
      go : (v : Model.Verdict) → without_moves v ≡ None → v ≡ Model.equilibrium
      go Model.equilibrium t = refl
      go (Model.deviation p gain moves) t = absurd (apart t)

  -- a deviation is the model's: its player, with his best response
  pub says_deviation : (d : Deviation) → without_moves (Model.verdict g q) ≡ Some d → Model.verdict g q ≡ Model.deviation (as_player d.player) d.gain (best_response g (as_player d.player) (q (other (as_player d.player))))
  unfolding Model.verdict Model.deviation_of
  says_deviation d e = go (lt_z (pos 0) (Model.gain g q one)) (lt_z (pos 0) (Model.gain g q two)) e
    where
      responds : Code.Player → ℤ → Model.Verdict
      responds p z = Model.deviation (as_player p) z (best_response g (as_player p) (q (other (as_player p))))

      shown : (p : Code.Player) (z : ℤ) → gains p z ≡ Some d → responds p z ≡ responds d.player d.gain
      shown p z t = ap (λ (o : Option Deviation). responds (of o).player (of o).gain) t
        where
          of : Option Deviation → Deviation
          of None = d
          of (Some a) = a

      go : (a b : Bool) → without_moves (cond a (Model.deviation_of g q one) (cond b (Model.deviation_of g q two) Model.equilibrium)) ≡ Some d → cond a (Model.deviation_of g q one) (cond b (Model.deviation_of g q two) Model.equilibrium) ≡ responds d.player d.gain
      go true b t = shown One (Model.gain g q one) t
      go false true t = shown Two (Model.gain g q two) t
      go false false t = absurd (apart (sym t))
