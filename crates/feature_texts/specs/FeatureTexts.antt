-- The texts of a fetched feature as the code finds them: the tags' names by their listed starts, the others as parts of the map.
use Rattle.std.specs.Prelude.{ℕ, ◌-◌, ◌*◌, ◌^◌, ◌<◌, ◌≤◌, Bool, false, cond, List, leb, ltb, length}
use Rattle.format.specs.Lent.{front}
use Rattle.types.specs.Types.{maybe_part}
use Rattle.fetched.specs.Fetched.{started_name, buffered}
use Rattle.feature_texts.specs.declared.TextParts.{TextParts}

-- all texts, one behind the other
abbrev pub texts_in : (starts : List ℕ) → TextParts → List ℕ → List ℕ → List ℕ
texts_in s p m ids =
    buffered (started_name s p.tags m) ids (maybe_part m p.name) (maybe_part m p.house_number) (maybe_part m p.reference)

-- at the front of a buffer that is long enough; a shorter one stays as it is. Texts of 2 ^ 64 - 1 bytes or more, which no feature has,
-- are not written.
abbrev pub write_texts : List ℕ → List ℕ → List ℕ
write_texts texts buffer = cond (ltb (length texts) (2 ^ 64 - 1)) (cond (leb (length texts) (length buffer)) (front texts buffer) buffer) buffer

-- What private functions find, which need not be believed. Texts have three times their stored length at the most:
pub record AtMost (texts : List ℕ) (stored : ℕ) : Type 0 where
  pub most : stored < 2 ^ 64 - 1 → length texts ≤ 3 * stored

-- and are written where there is room
abbrev pub room_for : List ℕ → ℕ → Bool
room_for texts room = cond (ltb (length texts) (2 ^ 64 - 1)) (leb (length texts) room) false
