-- The places of the section have the value, and no other has changed.
use Prim.Native.Nat.{ℕ, ◌-◌, ◌≤◌, ◌<◌}
use mathlib.Core.Path.{◌≡◌}
use mathlib.Core.List.{List}
use borrow.Rule.Slice.PartMut.{put_mid}
use lib.ListN.{length, get_or}
use Rattle.std.proofs.Common.{rules}
use Rattle.std.proofs.lemmas.List.{places}
use Rattle.loaded.proofs.fill.Goals as goal

-- a place outside the part that is written
kept : (from end : ℕ) (before part : List ℕ) → from ≤ end → end ≤ length before → length part ≡ end - from → (d j : ℕ) → (from ≤ j → j < end → ⊥) → get_or (put_mid from (end - from) before part) j d ≡ get_or before j d
kept from end before part ordered inside long d j out = search (rules, places, out)

pub returns : goal.returns
returns c =
    (record { long = search (rules, places); at = λ d i v. search (rules, places) }, record { long = search (rules, places); same = λ d j out. kept _ _ _ _ (search rules) c.requires.0 (search (rules, places)) d j out })
