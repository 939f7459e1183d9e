-- What single steps of the check do: counting and filling the cells that a rule names, and searching them. Only private functions speak
-- of these, so nobody has to believe them.
use Rattle.std.specs.Prelude.{ℕ, ◌+◌, ◌^◌, ◌<◌, min, ◌≡◌, cond, ◌&&◌, List, leb, ltb, length, get_or}
use Rattle.showing.specs.declared.Rule.{Rule}
use Rattle.showing.specs.Showing.{names, namings}

-- the parts of 32 bits are 16, 5 and 5 bits long
pub record Small (r : Rule) : Type 0 where
  pub id : r.id < 2 ^ 16
  pub lowest : r.lowest < 32
  pub highest : r.highest < 32

-- a count with one more, cut at 2
abbrev pub one_more : ℕ → ℕ
one_more n = min 2 (n + 1)

-- whatever stood there becomes v
abbrev pub always : (v : ℕ) → ℕ → ℕ
always v x = v

-- what stands at j after the entries from start to before end were put through f
unfoldable pub changed_in : (ℕ → ℕ) → (start end : ℕ) → List ℕ → (j : ℕ) → ℕ
changed_in f start end l j = cond (leb start j && ltb j end) (f (get_or l j 0)) (get_or l j 0)

-- what stands at j, which is cell from + j, after those that the rule names were put through f
unfoldable pub changed_by : (ℕ → ℕ) → Rule → (from : ℕ) → List ℕ → (j : ℕ) → ℕ
changed_by f r from l j = cond (names r (from + j)) (f (get_or l j 0)) (get_or l j 0)

-- a list of cells from `from` on, before and after those that the rule names were put through f
pub record Changed (f : ℕ → ℕ) (r : Rule) (from : ℕ) (l l' : List ℕ) : Type 0 where
  pub long : length l' ≡ length l
  pub at : (j : ℕ) → j < length l → get_or l' j 0 ≡ changed_by f r from l j

-- how many of the first n rules name each cell from `from` on, cut at 2
pub record Counted (bytes : List ℕ) (n from : ℕ) (counts : List ℕ) : Type 0 where
  pub at : (j : ℕ) → j < length counts → get_or counts j 0 ≡ min 2 (namings bytes n (from + j))

-- a cell found before the end, or the next one found
abbrev pub joined : (found end next : ℕ) → ℕ
joined found end next = cond (ltb found end) found next
