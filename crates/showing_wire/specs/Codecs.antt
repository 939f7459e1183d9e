-- Encode, then decode, is the identity, whatever words were lent: how the other program reads the words, and that nothing is lost on the
-- way.
use Rattle.std.specs.Prelude.{◌≡◌, refl, Bool, true, false, cond, [], ◌∷◌, eqb, Result, Ok, Err}
use Rattle.showing.specs.declared.RulesRefusal.{RulesRefusal}
use Rattle.showing.specs.declared.RulesRefusal.TheVariants.{InvalidRules, RulesOverlap, RulesGap, Short}
use Rattle.wire.specs.Wire.{Wire, Lent, Codec, word, truth}
use Rattle.wire.specs.Spread.{spread_wire, spread-out}
use Rattle.showing_wire.specs.Rules.{checked_wire, shown_wire}

abbrev Checked : Type 0
Checked = Result Unit RulesRefusal

-- by the number
abbrev pub checked_in : Wire → Checked
checked_in w =
    cond (eqb w.number 22) (Err InvalidRules)
    (cond (eqb w.number 23) (Err (RulesOverlap (word w 0 0) (word w 0 1)))
    (cond (eqb w.number 24) (Err (RulesGap (word w 0 0) (word w 0 1)))
    (cond (eqb w.number 15) (Err (Short (word w 0 0))) (Ok tt))))

pub checked-back : (w : Wire) → Lent (6 ∷ []) 0 0 w → (a : Checked) → checked_in (checked_wire w a) ≡ a
checked-back w h a = spread-out (6 ∷ []) 0 0 w h (λ v. checked_in (checked_wire v a) ≡ a) (go a)
  where
    go : (a : Checked) → checked_in (checked_wire (spread_wire (6 ∷ []) 0 0 w) a) ≡ a
    go (Ok u) = refl
    go (Err InvalidRules) = refl
    go (Err (RulesOverlap id zoom)) = refl
    go (Err (RulesGap id zoom)) = refl
    go (Err (Short n)) = refl

abbrev pub checked_codec : (w : Wire) → Lent (6 ∷ []) 0 0 w → Codec (checked_wire w)
checked_codec w h = record { decode = checked_in; back = checked-back w h }

abbrev pub shown_in : Wire → Bool
shown_in w = truth (word w 0 6)

pub shown-back : (w : Wire) → Lent (7 ∷ []) 0 0 w → (b : Bool) → shown_in (shown_wire w b) ≡ b
shown-back w h b = spread-out (7 ∷ []) 0 0 w h (λ v. shown_in (shown_wire v b) ≡ b) (go b)
  where
    go : (b : Bool) → shown_in (shown_wire (spread_wire (7 ∷ []) 0 0 w) b) ≡ b
    go true = refl
    go false = refl

abbrev pub shown_codec : (w : Wire) → Lent (7 ∷ []) 0 0 w → Codec (shown_wire w)
shown_codec w h = record { decode = shown_in; back = shown-back w h }
