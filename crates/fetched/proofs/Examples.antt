-- Document 01's order of a feature's texts and tags on small figures: the ids 1 and 0 of the names `a=b` and `c`, a name `N`, a house
-- number `7` with a byte that no UTF-8 has, and a reference `R`.
use Prim.Native.Nat.{ℕ}
use mathlib.Core.Path.{◌≡◌, refl}
use mathlib.Core.List.{List, [], ◌∷◌}
use lib.ListN.{length}
use Rattle.parsing.specs.Parse.{Part, some}
use Rattle.text.specs.Utf8 as utf8
use Rattle.tag.specs.Tag as tag
use Rattle.format.specs.Nodes.{zero64}
use Rattle.fetched.specs.Fetched.{listed_name, buffered, tag_string, needed_all}

abbrev pub part : List ℕ → Part
part b = record { start = 0; size = length b; bytes = b }

abbrev pub names : List Part
names = part (97 ∷ 61 ∷ 98 ∷ []) ∷ part (99 ∷ []) ∷ []

pub texts-in-order : buffered (listed_name names) (1 ∷ 0 ∷ []) (some (part (78 ∷ []))) (some (part (55 ∷ 255 ∷ []))) (some (part (82 ∷ []))) ≡ 99 ∷ 97 ∷ 61 ∷ 98 ∷ 78 ∷ 55 ∷ 239 ∷ 191 ∷ 189 ∷ 82 ∷ []
unfolding utf8.bytes_of_all utf8.sequences_from utf8.sequence_by utf8.follow
texts-in-order = refl

pub no-such-name : listed_name names 2 ≡ []
no-such-name = refl

pub string-measured : (tag_string (97 ∷ 61 ∷ 98 ∷ [])).len ≡ 3
unfolding utf8.bytes_of_all utf8.sequences_from utf8.sequence_by utf8.follow
string-measured = refl

pub split-measured : (tag_string (97 ∷ 61 ∷ 98 ∷ 99 ∷ [])).tag.value_len ≡ 2
unfolding utf8.bytes_of_all utf8.sequences_from utf8.sequence_by utf8.follow tag.equals_at
split-measured = refl

-- 15 gives the lengths in the order in which a fetch takes the lists, the buffer's last
pub lengths-in-order : needed_all (record { lists = record { counts = 2 ∷ []; latitudes = zero64 ∷ zero64 ∷ []; longitudes = zero64 ∷ zero64 ∷ [] }; initial_latitudes = zero64 ∷ []; initial_longitudes = zero64 ∷ []; buffer = 78 ∷ 55 ∷ 82 ∷ [] }) ≡ 1 ∷ 2 ∷ 2 ∷ 1 ∷ 1 ∷ 3 ∷ []
lengths-in-order = refl
