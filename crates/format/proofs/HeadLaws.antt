-- Laws of specs/Tile.antt that an edit of its definitions must break.
use Rattle.std.specs.Prelude.{ℕ, zero, suc, ◌+◌, ◌*◌, ◌-◌, ◌/◌, ◌%◌, ◌^◌, ◌≤◌, ◌<◌, ◌≡◌, refl, Bool, true, ◌&&◌, List, [], ◌∷◌, ltb, ℤ, pos, ◌-ℤ◌, length}
use Rattle.std.proofs.Common.{arith}
use Rattle.parsing.specs.Parse.{Res, ok, no, Parser, bind, ◌>>=◌, return, fail, pick, many, here, byte, Part, part, Maybe, none, some, optional}
use Rattle.parsing.specs.Good.{Good, Strict, Post, bind-good, return-good, instead-strict, strict-left, strict-right, bind-post}
use Rattle.parsing.proofs.GoodLaws.{goods, stricts}
use Rattle.byte_source.specs.BigEndian.{big_endian, bytes}
use Rattle.utils.specs.Vbe.{Noted, noted, values_of, all_plain, noted_unsigned, noted_signed, noted_text, numbers, numbers-strict, noted_unsigned-strict}
use Rattle.tag.specs.Value.{value, value-good}
use Rattle.tag.specs.declared.Kind.{Kind}
use Rattle.tag.specs.declared.Kind.TheVariants.{Nothing}
use Rattle.format.specs.Header.{bit}
use Rattle.format.specs.CutOff.{where_read, where_byte, of_head}
use Rattle.format.specs.WayData.{Node, node, way_data, node-good, way_data-good, node-strict}
use Rattle.format.specs.Tile.{debug_signature, tagged, head_rest, head, head_rest-good}

-- where a head's data start, and where it ends
head_rest-post : (kinds : List Kind) (g : Maybe Part) (n : Noted ℕ) (a : ℕ) → Post (head_rest kinds g n a) (λ h e. (a ≡ h.start) × (h.behind ≡ e))
unfolding head_rest
head_rest-post kinds g n a = bind-post (big_endian 2) λ b. bind-post (tagged kinds) λ t. record { holds = λ m i h e k. (cc, cc) }

pub head_post : (debug : Bool) (kinds : List Kind) → Post (head debug kinds) (λ h e. (h.start ≤ e) × (h.behind ≡ e))
unfolding head
head_post debug kinds =
    bind-post (debug_signature debug) λ g. bind-post noted_unsigned λ n. record {
      holds = λ m i h e k.
          let p = (head_rest-post kinds g n i).holds m i h e k in
          let f = (head_rest-good kinds g n i).forth m i h e k in
          (omega arith, p.1);
    }
