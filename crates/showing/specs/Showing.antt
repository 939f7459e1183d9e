-- Request 9, our own showing rules: what rules are, when a table of them passes, why it is turned away, and which ways a checked table
-- shows.
use Rattle.std.specs.Prelude.{ℕ, zero, suc, ◌+◌, ◌*◌, ◌/◌, ◌%◌, ◌^◌, ◌<◌, ◌≤◌, min, ◌≡◌, Bool, true, false, cond, not, ◌&&◌, ◌||◌, List, [], ◌∷◌, eqb, leb, ltb, length, get_or, Result, Ok, Err}
use Rattle.parsing.specs.Parse.{Res, ok, no}
use Rattle.error.specs.Refusals.{lengths}
use Rattle.showing.specs.declared.Rule.{Rule}
use Rattle.showing.specs.declared.RulesRefusal.{RulesRefusal}
use Rattle.showing.specs.declared.RulesRefusal.TheVariants.{InvalidRules, RulesOverlap, RulesGap, Short}

-- the 32 bits of rule k, which stands at byte 4 k, the most significant byte first
abbrev pub word_at : List ℕ → (k : ℕ) → ℕ
word_at bytes k = 2 ^ 24 * get_or bytes (4 * k) 0 + 2 ^ 16 * get_or bytes (4 * k + 1) 0 + 2 ^ 8 * get_or bytes (4 * k + 2) 0 + get_or bytes (4 * k + 3) 0

-- 32 bits, most significant first: way tag id 16, lowest zoom 5, highest zoom 5, class 6
abbrev pub rule_of : ℕ → Rule
rule_of n = record { id = n / 2 ^ 16; lowest = n / 2 ^ 11 % 32; highest = n / 2 ^ 6 % 32; class = n % 64 }

unfoldable pub rule_at : List ℕ → (k : ℕ) → Rule
rule_at bytes k = rule_of (word_at bytes k)

-- a tag id of the map, and lowest not above highest
unfoldable pub well_formed : (tags : ℕ) → Rule → Bool
well_formed tags r = ltb r.id tags && leb r.lowest r.highest

-- the first n rules are well formed
unfoldable pub first_formed : (tags : ℕ) → List ℕ → (n : ℕ) → Bool
first_formed tags bytes zero = true
first_formed tags bytes (suc n) = first_formed tags bytes n && well_formed tags (rule_at bytes n)

-- no reason for 22: the length is a multiple of 4, and every rule is well formed
unfoldable pub formed : (tags : ℕ) → List ℕ → Bool
formed tags bytes = eqb (length bytes % 4) 0 && first_formed tags bytes (length bytes / 4)

-- a tag and a zoom from 0 to 31 are cell 32 tag + zoom, so that ascending cells go by tag id and then by zoom
unfoldable pub names : Rule → (cell : ℕ) → Bool
names r cell = eqb r.id (cell / 32) && (leb r.lowest (cell % 32) && leb (cell % 32) r.highest)

-- how many of the first n rules name the cell
unfoldable pub namings : List ℕ → (n cell : ℕ) → ℕ
namings bytes zero cell = 0
namings bytes (suc n) cell = namings bytes n cell + cond (names (rule_at bytes n) cell) 1 0

-- two rules or more name the cell, or none does
abbrev pub overlaps : List ℕ → (cell : ℕ) → Bool
overlaps bytes cell = leb 2 (namings bytes (length bytes / 4) cell)

abbrev pub gaps : List ℕ → (cell : ℕ) → Bool
gaps bytes cell = eqb (namings bytes (length bytes / 4) cell) 0

-- the first of the n cells from i on at which f holds; i + n where it holds at none
unfoldable pub first_from : (ℕ → Bool) → (n i : ℕ) → ℕ
first_from f zero i = i
first_from f (suc n) i = cond (f i) i (first_from f n (suc i))

-- the first of the table's cells at which f holds, as tag id and zoom, is a refusal; where there is none, the check goes on
abbrev pub refuse_first : (number tags : ℕ) → (ℕ → Bool) → Res Unit → Res Unit
refuse_first number tags f next =
    let cell = first_from f (32 * tags) 0 in
    cond (ltb cell (32 * tags)) (no number (cell / 32 ∷ cell % 32 ∷ [])) next

-- what a check answers, in the order of its tests: 22; 23 for an overlap; 24 for a gap; last 15, with the length needed of the table
unfoldable pub checked : (tags : ℕ) → List ℕ → (lent : ℕ) → Res Unit
checked tags bytes lent =
    cond (formed tags bytes)
    (refuse_first 23 tags (overlaps bytes)
    (refuse_first 24 tags (gaps bytes)
    (cond (ltb lent (32 * tags)) (no 15 (lengths (32 * tags) 0 0 0 0 0)) (ok tt 0))))
    (no 22 [])

-- the number and the values of each answer; no place of a map is read, and it is 0
abbrev pub rules_refused : RulesRefusal → Res Unit
rules_refused InvalidRules = no 22 []
rules_refused (RulesOverlap id zoom) = no 23 (id ∷ zoom ∷ [])
rules_refused (RulesGap id zoom) = no 24 (id ∷ zoom ∷ [])
rules_refused (Short n) = no 15 (lengths n 0 0 0 0 0)

abbrev pub checked_res : Result Unit RulesRefusal → Res Unit
checked_res (Ok u) = ok tt 0
checked_res (Err r) = rules_refused r

-- the class that the first n rules give the cell, that of the last one that names it; `other` where none does. (In a table that passes
-- just one rule names each cell.)
unfoldable pub class_at : List ℕ → (n cell other : ℕ) → ℕ
class_at bytes zero cell other = other
class_at bytes (suc n) cell other = cond (names (rule_at bytes n) cell) (rule_at bytes n).class (class_at bytes n cell other)

-- a table before and after the first n rules were put into it
pub record Filled (bytes : List ℕ) (n : ℕ) (before after : List ℕ) : Type 0 where
  pub long : length after ≡ length before
  pub at : (cell : ℕ) → cell < length before → get_or after cell 0 ≡ class_at bytes n cell (get_or before cell 0)

-- the lent table after a check: the rules' classes if they passed, and behind them as it was; untouched if they were turned away
abbrev pub After : Res Unit → List ℕ → (before after : List ℕ) → Type 0
After (ok _ _) bytes before after = Filled bytes (length bytes / 4) before after
After (no _ _) bytes before after = after ≡ before

-- the zoom asked for, those above 31 counting as 31
abbrev pub zoom_of : ℕ → ℕ
zoom_of zoom = min zoom 31

-- the class of a tag at a zoom in a checked table; 0, hidden, behind the table's end
unfoldable pub class_in : (table : List ℕ) → (zoom id : ℕ) → ℕ
class_in table zoom id = get_or table (32 * id + zoom_of zoom) 0

-- a way is accepted exactly if one of its tags has a class other than 0 at the zoom asked for; a way without tags is declined
unfoldable pub shown : (table : List ℕ) → (zoom : ℕ) → (ids : List ℕ) → Bool
shown table zoom [] = false
shown table zoom (id ∷ ids) = not (eqb (class_in table zoom id) 0) || shown table zoom ids

-- The same by the rules themselves, of tags of the map: one of the first n rules names the cell and has a class other than 0,
unfoldable pub ruled_in : List ℕ → (n cell : ℕ) → Bool
ruled_in bytes zero cell = false
ruled_in bytes (suc n) cell = (names (rule_at bytes n) cell && not (eqb (rule_at bytes n).class 0)) || ruled_in bytes n cell

-- and one does for a tag of the way, at the zoom asked for
unfoldable pub shown_by : List ℕ → (zoom : ℕ) → (ids : List ℕ) → Bool
shown_by bytes zoom [] = false
shown_by bytes zoom (id ∷ ids) = ruled_in bytes (length bytes / 4) (32 * id + zoom_of zoom) || shown_by bytes zoom ids

-- ids are of tags of the map, as all are that a stream gives
unfoldable pub below : (tags : ℕ) → (ids : List ℕ) → Bool
below tags [] = true
below tags (id ∷ ids) = ltb id tags && below tags ids

-- what makes a table pass: no reason for 22, just one rule for every tag and zoom, and a lent table that is long enough
pub record Passes (tags : ℕ) (bytes : List ℕ) (lent : ℕ) : Type 0 where
  pub well_made : formed tags bytes ≡ true
  pub once : (cell : ℕ) → cell < 32 * tags → namings bytes (length bytes / 4) cell ≡ 1
  pub long : 32 * tags ≤ lent

-- what `first_from` finds: nothing before it, and it, unless it is the end of the n cells from i on
pub record First (f : ℕ → Bool) (n i found : ℕ) : Type 0 where
  pub start : i ≤ found
  pub end : found ≤ i + n
  pub before : (cell : ℕ) → i ≤ cell → cell < found → f cell ≡ false
  pub holds : found < i + n → f found ≡ true
