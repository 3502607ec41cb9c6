-- Parts one after the other.
use Rattle.gb_types.specs.Common.{◌≡◌, ℕ, ◌+◌, ◌≤◌, Bool, false, List, [], ◌∷◌, ◌++◌, refl, sym, ap, subst, ◌∙◌, arith, append_assoc, append-nil, length, length-append, map, map-append}
use Rattle.std.specs.Prelude.{IsPermutation}
use Rattle.gb_node.specs.declared.tape.TapeEntry.{TapeEntry}
use Rattle.gb_record_text.specs.Records.{AreJoined, AreRising, Follow, IsNext, PartValue, entries_of, is_last_whole, value_of}
use Rattle.gb_record_text.specs.declared.{head.RecordHead.RecordHead, part.Part.Part, reader.Record.Record}

pub entries_more : (ps : List PartValue) (p : PartValue) → entries_of (ps ++ p ∷ []) ≡ entries_of ps ++ p.entries
entries_more [] p = append-nil p.entries
entries_more (x ∷ ps) p = ap (λ (es : List TapeEntry). x.entries ++ es) (entries_more ps p) ∙ sym (append_assoc x.entries (entries_of ps) p.entries)

pub follow_more : (c : RecordHead) (tag : List ℕ) (n : ℕ) (ps : List PartValue) (p : PartValue) → Follow c tag n ps → IsNext c tag (n + length (entries_of ps)) p → Follow c tag n (ps ++ p ∷ [])
follow_more c tag n [] p follow next = (subst (λ m. IsNext c tag m p) (let none : n + 0 ≡ n = omega arith in none) next, tt)
follow_more c tag n (x ∷ ps) p follow next = (
  follow.0,
  follow_more c tag (n + length x.entries) ps p follow.1 (subst (λ m. IsNext c tag m p) (let sum : n + length (x.entries ++ entries_of ps) ≡ n + length x.entries + length (entries_of ps) = omega (arith, length-append x.entries (entries_of ps)) in sum) next),
)

-- the lowest number that a part behind these may have
abbrev pub least_behind : ℕ → List PartValue → ℕ
least_behind n [] = n
least_behind n (p ∷ ps) = least_behind (p.head.part + 1) ps

rising_more : (n : ℕ) (ps : List PartValue) (p : PartValue) → AreRising n ps → least_behind n ps ≤ p.head.part → AreRising n (ps ++ p ∷ [])
rising_more n [] p rising le = (le, tt)
rising_more n (x ∷ ps) p rising le = (rising.0, rising_more (x.head.part + 1) ps p rising.1 le)

least_more : (n : ℕ) (ps : List PartValue) (p : PartValue) → least_behind n (ps ++ p ∷ []) ≡ p.head.part + 1
least_more n [] p = refl
least_more n (x ∷ ps) p = least_more (x.head.part + 1) ps p

whole_more : (b : Bool) (ps : List PartValue) (p : PartValue) → is_last_whole b (ps ++ p ∷ []) ≡ p.is_whole
whole_more b [] p = refl
whole_more b (x ∷ ps) p = whole_more x.is_whole ps p

-- these parts were joined
pub record IsJoining (c : RecordHead) (tag : List ℕ) (done : List Part) (r : Record) (least : ℕ) : Type 0 where
  pub head : r.head ≡ c
  pub rising : AreRising 0 (map value_of done)
  pub follow : Follow c tag 0 (map value_of done)
  pub entries : r.entries.items ≡ entries_of (map value_of done)
  pub is_whole : r.is_whole ≡ is_last_whole false (map value_of done)
  pub low : least ≡ least_behind 0 (map value_of done)

pub joining_none : (c : RecordHead) (tag : List ℕ) (r : Record) → r.head ≡ c → r.entries.items ≡ [] → r.is_whole ≡ false → IsJoining c tag [] r 0
joining_none c tag r head entries whole = record { head = head; rising = tt; follow = tt; entries = entries; is_whole = whole; low = refl }

pub joining_more : (c : RecordHead) (tag : List ℕ) (done : List Part) (r s : Record) (least : ℕ) (p : Part) → IsJoining c tag done r least → IsNext r.head tag (length r.entries.items) (value_of p) → least ≤ p.head.part
    → s.head ≡ r.head → s.entries.items ≡ r.entries.items ++ p.entries.items → s.is_whole ≡ p.is_whole → IsJoining c tag (done ++ p ∷ []) s (p.head.part + 1)
joining_more c tag done r s least p so next le head entries whole =
    let v = value_of p in
    let ps = map value_of done in
    let all : map value_of (done ++ p ∷ []) ≡ ps ++ v ∷ [] = map-append value_of done (p ∷ []) in
    let behind : IsNext c tag (length (entries_of ps)) v = subst (λ (es : List TapeEntry). IsNext c tag (length es) v) so.entries (subst (λ (h : RecordHead). IsNext h tag (length r.entries.items) v) so.head next) in
    record {
      head = head ∙ so.head;
      rising = subst (AreRising 0) (sym all) (rising_more 0 ps v so.rising (subst (λ n. n ≤ p.head.part) so.low le));
      follow = subst (Follow c tag 0) (sym all) (follow_more c tag 0 ps v so.follow (subst (λ n. IsNext c tag n v) (let none : length (entries_of ps) ≡ 0 + length (entries_of ps) = omega arith in none) behind));
      entries = entries ∙ (ap (λ (es : List TapeEntry). es ++ p.entries.items) so.entries ∙ (sym (entries_more ps v) ∙ ap entries_of (sym all)));
      is_whole = whole ∙ (sym (whole_more false ps v) ∙ ap (is_last_whole false) (sym all));
      low = sym (least_more 0 ps v) ∙ ap (least_behind 0) (sym all);
    }

pub are_joined : (parts order : List Part) (c : RecordHead) (tag : List ℕ) (r : Record) (least : ℕ) → IsPermutation parts order → IsJoining c tag order r least → AreJoined parts r
are_joined parts order c tag r least same so = record {
  order = order;
  same = same;
  tag = tag;
  rising = so.rising;
  follow = subst (λ (h : RecordHead). Follow h tag 0 (map value_of order)) (sym so.head) so.follow;
  entries = so.entries;
  is_whole = so.is_whole;
}
