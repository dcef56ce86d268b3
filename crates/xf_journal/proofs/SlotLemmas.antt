-- What a slot holds, by what stands before the gate that ends its entries.
use Rattle.std.proofs.Common.{◌≡◌, ◌≤◌, ◌<◌, ℕ, ◌+◌, List, [], ◌∷◌, ◌++◌, length, take, drop, Option, Some, None, Ok, refl, sym, ◌∙◌, ap, subst, arith, length-append, length-take, length-drop, append_assoc, take-append-drop}
use Rattle.std.proofs.lemmas.List.{take_at, drop_at}
use Rattle.std.proofs.lemmas.Bool.{leb-true, le-leb, and_parts, and_from}
use Rattle.std.specs.Prelude.{Bool, true, false, not, nat_le, nat_lt, ◌&&◌, ◌==◌, if◌then◌else◌}
use Rattle.xf_disk.specs.declared.slot.Slot.{Slot}
use Rattle.xf_journal.specs.declared.layout.Format.{Format}
use Rattle.xf_journal.specs.declared.layout.Format.TheVariants.{First, Second}
use Rattle.xf_base.specs.Limits.{form_limit, adoption_limit}
use Rattle.xf_journal.specs.Layout.{tag_of, begins_with, has_tag, format_in, header_length, epoch_in, form_length, base_length, base_at, entries_at, is_epoch, adoptions_in, do_adoptions_stand, first_fault}
use Rattle.xf_journal.specs.Held.{Tail, Log, log_with, kept_in, log_in, unless_fault, log_as, log_of, entries_from}
use Rattle.xf_journal.proofs.NumberLemmas.{from_four-front}
use Rattle.xf_journal.proofs.TailLemmas.{before, tail_splits, entries_few}
use Rattle.xf_journal.proofs.HeaderLemmas.{part_of, epoch_alike}

begins_take : (tag xs : List ℕ) → begins_with tag (take (length tag) xs) ≡ begins_with tag xs
begins_take [] xs = refl
begins_take (t ∷ tag) [] = refl
begins_take (t ∷ tag) (x ∷ xs) = ap (λ (b : Bool). (x == t) && b) (begins_take tag xs)

-- a header has at least 21 bytes
pub least_header : (format : Format) → 21 ≤ header_length format
least_header First = omega arith
least_header Second = omega arith

-- two slots that begin alike have one tag
tag_alike : (format : Format) (n : ℕ) (xs ys : List ℕ) → 21 ≤ n → take n ys ≡ take n xs → has_tag format ys ≡ has_tag format xs
tag_alike format n xs ys enough same = sym (begins_tag format (drop 1 ys)) ∙ ap (λ (l : List ℕ). begins_with (tag_of format) l) (part_of n 1 4 ys xs (omega arith) same) ∙ begins_tag format (drop 1 xs)
  where
    begins_tag : (f : Format) (bytes : List ℕ) → begins_with (tag_of f) (take 4 bytes) ≡ begins_with (tag_of f) bytes
    begins_tag First bytes = begins_take (tag_of First) bytes
    begins_tag Second bytes = begins_take (tag_of Second) bytes

adoptions_alike : (format : Format) (n : ℕ) (xs ys : List ℕ) → header_length format ≤ n → n ≤ length xs → n ≤ length ys → take n ys ≡ take n xs → adoptions_in format ys ≡ adoptions_in format xs
adoptions_alike First n xs ys enough long long' same = refl
adoptions_alike Second n xs ys enough long long' same =
    from_four-front (drop 21 ys) (drop 21 xs) (omega (arith, length-drop 21 ys)) (omega (arith, length-drop 21 xs)) (part_of n 21 4 ys xs (omega arith) same)

-- and one header
pub record HeaderIs (format : Format) (xs ys : List ℕ) : Type 0 where
  pub tag : format_in ys ≡ format_in xs
  pub epoch : epoch_in ys ≡ epoch_in xs
  pub form : form_length ys ≡ form_length xs
  pub base : base_length ys ≡ base_length xs
  pub adoptions : adoptions_in format ys ≡ adoptions_in format xs

pub header_alike : (format : Format) (n : ℕ) (xs ys : List ℕ) → header_length format ≤ n → n ≤ length xs → n ≤ length ys → take n ys ≡ take n xs → HeaderIs format xs ys
header_alike format n xs ys whole long long' same =
    let enough : 21 ≤ n = omega (arith, least_header format, whole) in
    let first = tag_alike First n xs ys enough same in
    let second = tag_alike Second n xs ys enough same in
    record {
      tag = λ i. if first i then Some First else if second i then Some Second else None;
      adoptions = adoptions_alike format n xs ys whole long long' same;
      epoch = epoch_alike n ys xs (omega arith) long' long same;
      form = from_four-front (drop 13 ys) (drop 13 xs) (omega (arith, length-drop 13 ys)) (omega (arith, length-drop 13 xs)) (part_of n 13 4 ys xs (omega arith) same);
      base = from_four-front (drop 17 ys) (drop 17 xs) (omega (arith, length-drop 17 ys)) (omega (arith, length-drop 17 xs)) (part_of n 17 4 ys xs (omega arith) same);
    }

-- the fields of a header that is no fault
pub record FieldsStand (format : Format) (bytes : List ℕ) : Type 0 where
  pub epoch : is_epoch (epoch_in bytes) ≡ true
  pub form : nat_le (form_length bytes) form_limit ≡ true
  pub form_stands : base_at format bytes ≤ length bytes
  pub base_stands : entries_at format bytes ≤ length bytes
  pub adoptions : do_adoptions_stand format bytes ≡ true

if_none : (b : Bool) (at : ℕ) (o : Option ℕ) → (if not b then Some at else o) ≡ None → (b ≡ true) × (o ≡ None)
if_none true at o is = (refl, is)
if_none false at o is = cc

pub fields_stand : (format : Format) (bytes : List ℕ) → first_fault format bytes ≡ None → FieldsStand format bytes
fields_stand format bytes none =
    let first = if_none (is_epoch (epoch_in bytes)) 5 _ none in
    let second = if_none (nat_le (form_length bytes) form_limit && nat_le (base_at format bytes) (length bytes)) 13 _ first.1 in
    let third = if_none (nat_le (entries_at format bytes) (length bytes)) 17 _ second.1 in
    let fourth = if_none (do_adoptions_stand format bytes) 21 None third.1 in
    let both = and_parts (nat_le (form_length bytes) form_limit) (nat_le (base_at format bytes) (length bytes)) second.0 in
    record {
      epoch = first.0;
      form = both.0;
      form_stands = leb-true (base_at format bytes) (length bytes) both.1;
      base_stands = leb-true (entries_at format bytes) (length bytes) third.0;
      adoptions = fourth.0;
    }

not_fault : (b : Bool) (at : ℕ) (o : Option ℕ) → b ≡ true → (if not b then Some at else o) ≡ o
not_fault true at o is = refl
not_fault false at o is = cc

pub no_fault : (format : Format) (bytes : List ℕ) → FieldsStand format bytes → first_fault format bytes ≡ None
no_fault format bytes stand =
    not_fault (is_epoch (epoch_in bytes)) 5 _ stand.epoch
    ∙ not_fault (nat_le (form_length bytes) form_limit && nat_le (base_at format bytes) (length bytes)) 13 _ (and_from _ _ stand.form (le-leb (base_at format bytes) (length bytes) stand.form_stands))
    ∙ not_fault (nat_le (entries_at format bytes) (length bytes)) 17 _ (le-leb (entries_at format bytes) (length bytes) stand.base_stands)
    ∙ not_fault (do_adoptions_stand format bytes) 21 None stand.adoptions

-- what is known of a slot that holds a journal
pub record Reads (slot : Slot) (bytes : List ℕ) (log : Log) : Type 0 where
  pub format : Format
  pub tag : format_in bytes ≡ Some format
  pub stand : FieldsStand format bytes
  pub log_is : log_in format slot bytes ≡ log

fault_reads : (slot : Slot) (bytes : List ℕ) (log : Log) (format : Format) (o : Option ℕ) → format_in bytes ≡ Some format → first_fault format bytes ≡ o → unless_fault o slot (log_in format slot bytes) ≡ Ok log → Reads slot bytes log
fault_reads slot bytes log format None tag none is = record { format = format; tag = tag; stand = fields_stand format bytes none; log_is = cc }
fault_reads slot bytes log format (Some at) tag some is = cc

as_reads : (slot : Slot) (bytes : List ℕ) (log : Log) (o : Option Format) → format_in bytes ≡ o → log_as o slot bytes ≡ Ok log → Reads slot bytes log
as_reads slot bytes log None tag is = cc
as_reads slot bytes log (Some format) tag is = fault_reads slot bytes log format (first_fault format bytes) tag refl is

pub reads_of : (slot : Slot) (bytes : List ℕ) (log : Log) → log_of slot bytes ≡ Ok log → Reads slot bytes log
reads_of slot bytes log is = as_reads slot bytes log (format_in bytes) refl is

-- and the other way
pub log_from : (slot : Slot) (bytes : List ℕ) (format : Format) → format_in bytes ≡ Some format → FieldsStand format bytes → log_of slot bytes ≡ Ok (log_in format slot bytes)
log_from slot bytes format tag stand =
    ap (λ (o : Option Format). log_as o slot bytes) tag ∙ ap (λ (o : Option ℕ). unless_fault o slot (log_in format slot bytes)) (no_fault format bytes stand)

-- the header alone says what the journal is before its entries
kept_alike : (format : Format) (slot : Slot) (n : ℕ) (xs ys : List ℕ) → HeaderIs format xs ys → entries_at format xs ≤ n → take n ys ≡ take n xs → kept_in format slot ys ≡ kept_in format slot xs
kept_alike format slot n xs ys header enough same =
    let h = header_length format in
    let form : take (form_length ys) (drop h ys) ≡ take (form_length xs) (drop h xs) =
    ap (λ (k : ℕ). take k (drop h ys)) header.form ∙ part_of n h (form_length xs) ys xs (omega arith) same in
    let base_same : base_at format ys ≡ base_at format xs = ap (λ (k : ℕ). h + k) header.form in
    let base : take (base_length ys) (drop (base_at format ys) ys) ≡ take (base_length xs) (drop (base_at format xs) xs) =
    (λ i. take (header.base i) (drop (base_same i) ys)) ∙ part_of n (base_at format xs) (base_length xs) ys xs enough same in
    λ i. record { slot = slot; epoch = header.epoch i; adoptions = header.adoptions i; form = form i; base = base i; entries = [] }

-- entries that come after a journal's own
abbrev pub followed_by : Log → Tail → Log
followed_by log tail = record { kept = record log.kept { entries = log.kept.entries ++ tail.entries }; gate = tail.gate; cut = tail.cut }

-- a slot that holds a journal whole holds the same up to the gate that ends it, whatever stands from there on
pub record Stem (slot : Slot) (bytes : List ℕ) (log : Log) : Type 0 where
  pub long : log.gate < length bytes
  pub enough : 21 ≤ log.gate
  pub gate : ℕ
  pub rest : List ℕ
  pub shut : gate ≡ 1 → ⊥
  pub split : drop log.gate bytes ≡ gate ∷ rest
  pub own : log.kept.slot ≡ slot
  pub others : (more : List ℕ) → take log.gate more ≡ take log.gate bytes → log.gate < length more → log_of slot more ≡ Ok (followed_by log (entries_from 0 log.gate (drop log.gate more)))

-- where the number of changes of the form stands in one slot, it stands in one that is as long
adoptions_stay : (format : Format) (xs ys : List ℕ) → adoptions_in format ys ≡ adoptions_in format xs → header_length format < length ys → do_adoptions_stand format xs ≡ true → do_adoptions_stand format ys ≡ true
adoptions_stay First xs ys same long stand = refl
adoptions_stay Second xs ys same long stand =
    let few = and_parts (nat_le 26 (length xs)) (nat_lt (adoptions_in Second xs) adoption_limit) stand in
    and_from (nat_le 26 (length ys)) (nat_lt (adoptions_in Second ys) adoption_limit) (le-leb 26 (length ys) (omega (arith, long))) (ap (λ (k : ℕ). nat_lt k adoption_limit) same ∙ few.1)

any_stem : (format : Format) (slot : Slot) (bytes : List ℕ) → format_in bytes ≡ Some format → FieldsStand format bytes → (log_in format slot bytes).cut ≡ None → Stem slot bytes (log_in format slot bytes)
any_stem format slot bytes tag stand whole =
    let h = header_length format in
    let least : 21 ≤ h = least_header format in
    let e = entries_at format bytes in
    let s = tail_splits 0 e (drop e bytes) whole in
    let n = (log_in format slot bytes).gate in
    let head : length (take e bytes) ≡ e = omega (arith, length-take e bytes, stand.base_stands) in
    let all : bytes ≡ (take e bytes ++ s.front) ++ s.gate ∷ s.rest =
    sym (take-append-drop e bytes) ∙ ap (λ (l : List ℕ). take e bytes ++ l) s.split ∙ sym (append_assoc (take e bytes) s.front (s.gate ∷ s.rest)) in
    let size : length (take e bytes ++ s.front) ≡ n = omega (arith, length-append (take e bytes) s.front, head, s.ends) in
    let front : take n bytes ≡ take e bytes ++ s.front = ap (λ (l : List ℕ). take n l) all ∙ take_at (take e bytes ++ s.front) (s.gate ∷ s.rest) n size in
    let behind : drop n bytes ≡ s.gate ∷ s.rest = ap (λ (l : List ℕ). drop n l) all ∙ drop_at (take e bytes ++ s.front) (s.gate ∷ s.rest) n size in
    let fits : n < length bytes = omega (arith, ap length behind, length-drop n bytes) in
    record {
      long = fits;
      enough = omega (arith, s.ends, least);
      gate = s.gate;
      rest = s.rest;
      shut = s.shut;
      split = behind;
      own = refl;
      others = λ more same within.
          let header = header_alike format n bytes more (omega (arith, s.ends)) (omega (arith, fits)) (omega (arith, within)) same in
          let base_same : base_at format more ≡ base_at format bytes = ap (λ (k : ℕ). h + k) header.form in
          let e_same : entries_at format more ≡ e = λ i. base_same i + header.base i in
          let stand_more : FieldsStand format more = record {
            epoch = ap is_epoch header.epoch ∙ stand.epoch;
            form = ap (λ (k : ℕ). nat_le k form_limit) header.form ∙ stand.form;
            form_stands = omega (arith, base_same, s.ends, within);
            base_stands = omega (arith, e_same, s.ends, within);
            adoptions = adoptions_stay format bytes more header.adoptions (omega (arith, s.ends, within)) stand.adoptions;
          } in
          let more_all : more ≡ take e bytes ++ (s.front ++ drop n more) =
          sym (take-append-drop n more) ∙ ap (λ (l : List ℕ). l ++ drop n more) (same ∙ front) ∙ append_assoc (take e bytes) s.front (drop n more) in
          let from : drop e more ≡ s.front ++ drop n more = ap (λ (l : List ℕ). drop e l) more_all ∙ drop_at (take e bytes) (s.front ++ drop n more) e head in
          let tail : entries_from 0 (entries_at format more) (drop (entries_at format more) more) ≡ before (entries_from 0 e (drop e bytes)).entries (entries_from 0 n (drop n more)) =
          ap (λ (k : ℕ). entries_from 0 k (drop k more)) e_same ∙ ap (λ (l : List ℕ). entries_from 0 e l) from ∙ s.others (drop n more)
          ∙ ap (λ (k : ℕ). before (entries_from 0 e (drop e bytes)).entries (entries_from 0 k (drop n more))) (sym s.ends) in
          let kept = kept_alike format slot n bytes more header (omega (arith, s.ends)) same in
          log_from slot more format (header.tag ∙ tag) stand_more
          ∙ (λ i. Ok (log_with (kept i) (tail i)));
    }

pub stem_of : (slot : Slot) (bytes : List ℕ) (log : Log) → log_of slot bytes ≡ Ok log → log.cut ≡ None → Stem slot bytes log
stem_of slot bytes log is whole =
    let r = reads_of slot bytes log is in
    subst (Stem slot bytes) r.log_is (any_stem r.format slot bytes r.tag r.stand (ap (λ (l : Log). l.cut) r.log_is ∙ whole))

-- a journal has fewer entries than bytes
pub entries_fit : (slot : Slot) (bytes : List ℕ) (log : Log) → log_of slot bytes ≡ Ok log → length log.kept.entries ≤ log.gate
entries_fit slot bytes log is =
    let r = reads_of slot bytes log is in
    let e = entries_at r.format bytes in
    let few : length (log_in r.format slot bytes).kept.entries ≤ (log_in r.format slot bytes).gate = omega (arith, entries_few 0 e (drop e bytes)) in
    subst (λ (l : Log). length l.kept.entries ≤ l.gate) r.log_is few
