-- The two laws: what is read is spelled so, and what is spelled so is read.
use Rattle.std.proofs.Common.{◌≡◌, ◌≤◌, ◌<◌, ℕ, suc, ◌+◌, ◌^◌, List, [], ◌∷◌, ◌++◌, length, Option, Some, None, refl, sym, ◌∙◌, ap, subst, arith, append_assoc}
use Rattle.std.specs.Prelude.{Bool, true, ◌&&◌, nat_le, nat_lt, sum_by, Result, Ok, Err, IfOk, IfSome, if◌then◌else◌}
use Rattle.std.specs.List.{flat_map, list_all, AllByRecursion}
use Rattle.std.proofs.lemmas.Bool.{leb-true, le-leb, and_parts, and_from}
use Rattle.std.proofs.lemmas.List.{append-nil}
use Rattle.xf_def_forest.specs.declared.bare.Bare.{Bare}
use Rattle.xf_def_forest.specs.Limits.{limits}
use Rattle.xf_snap.specs.declared.snap.Snap.{Snap}
use Rattle.xf_snap.specs.Numbers.{two, four, eight, from_two, from_four, from_eight}
use Rattle.xf_snap.specs.Spelling.{tree_bytes, bytes_of}
use Rattle.xf_snap.specs.Within.{is_fit, is_typed, is_element, tree_nodes, tree_size, IsWithin, IsTyped}
use Rattle.xf_snap.specs.Reading.{◌>>=◌, Front, two_at, four_at, eight_at, several, tree_at, documents_at, indexes_at, cases_at, ended, snap_at, keeps_limits, snap_in}
use Rattle.xf_snap.proofs.NumberLemmas.{IsBytes, Takes, bind_some, guard_met, wide_two, wide_four, wide_eight, number_takes, number_again}
use Rattle.xf_snap.proofs.SeveralLemmas.{takes_then, Taken, Again, several_take, several_again, each_all, all_each, each_in, each_both, each_within}
use Rattle.xf_snap.proofs.FieldLemmas.{some_is, guard_then}
use Rattle.xf_snap.proofs.TakenLemmas.{IsTree, trees_taken}
use Rattle.xf_snap.proofs.AgainLemmas.{trees_again}

-- ---- a list behind its number

-- how a list is spelled
abbrev list_bytes : {X : Type 0} → (X → List ℕ) → List X → List ℕ
list_bytes write xs = two (length xs) ++ flat_map write xs

abbrev list_at : {X : Type 0} → (List ℕ → Front X) → List ℕ → Front (List X)
list_at read bytes = two_at bytes >>= λ count. several read count.0 count.1

list_taken : {X : Type 0} (write : X → List ℕ) (read : List ℕ → Front X) (P : X → Type 0) → Taken write read P → (bytes : List ℕ) (x : List X × List ℕ) → IsBytes bytes → list_at read bytes ≡ Some x
    → Takes bytes (list_bytes write x.0) x.1 × (length x.0 < 2 ^ 16) × AllByRecursion P x.0
list_taken write read P takes bytes x fits is =
    let a = bind_some (two_at bytes) (λ count. several read count.0 count.1) x is in
    let t = number_takes 2 two from_two (2 ^ 16) wide_two bytes a.0 fits a.1 in
    let u = several_take write read P takes a.0.0 a.0.1 x t.0.rest_fits a.2 in
    let all = takes_then bytes (two a.0.0) a.0.1 (flat_map write x.0) x.1 t.0 u.0 in
    (subst (λ (n : ℕ). Takes bytes (two n ++ flat_map write x.0) x.1) (sym u.1) all, omega (arith, t.1, u.1), u.2)

list_again : {X : Type 0} (write : X → List ℕ) (read : List ℕ → Front X) (xs : List X) → length xs < 2 ^ 16 → AllByRecursion (Again write read) xs → (rest : List ℕ) → list_at read (list_bytes write xs ++ rest) ≡ Some (xs, rest)
list_again {X} write read xs few each rest =
    let split : list_bytes write xs ++ rest ≡ two (length xs) ++ (flat_map write xs ++ rest) = append_assoc (two (length xs)) (flat_map write xs) rest in
    let size : two_at (list_bytes write xs ++ rest) ≡ Some (length xs, flat_map write xs ++ rest) = ap two_at split ∙ number_again 2 two from_two (2 ^ 16) wide_two (length xs) (flat_map write xs ++ rest) few in
    ap (λ (o : Front ℕ). o >>= λ count. several read count.0 count.1) size ∙ several_again write read xs each rest

four_taken : Taken four four_at (λ n. n < 2 ^ 32)
four_taken bytes x fits is = number_takes 4 four from_four (2 ^ 32) wide_four bytes x fits is

two_taken : Taken two two_at (λ n. n < 2 ^ 16)
two_taken bytes x fits is = number_takes 2 two from_two (2 ^ 16) wide_two bytes x fits is

-- ---- what is read

-- as a snapshot is read, before its limits as a whole
record IsRead (s : Snap) : Type 0 where
  pub fit : list_all (λ tree. is_fit tree limits.depth) s.documents ≡ true
  pub typed : list_all is_typed s.documents ≡ true
  pub few_documents : length s.documents < 2 ^ 16
  pub few_indexes : length s.indexes < 2 ^ 16
  pub few_cases : length s.cases < 2 ^ 16
  pub indexes : list_all (λ index. nat_lt index (2 ^ 32)) s.indexes ≡ true
  pub cases : list_all (λ place. nat_lt place (2 ^ 16)) s.cases ≡ true

ended_is : {X : Type 0} (x y : X) (bytes : List ℕ) → ended x bytes ≡ Some y → (x ≡ y) × (bytes ≡ [])
ended_is x y [] is = (some_is x y is, refl)
ended_is x y (byte ∷ bytes) is = cc

read_taken : (bytes : List ℕ) (s : Snap) → IsBytes bytes → snap_at bytes ≡ Some s → (bytes ≡ bytes_of s) × IsRead s
unfolding snap_at documents_at indexes_at cases_at
read_taken bytes s fits is =
    let a = bind_some (eight_at bytes) (λ accepted. documents_at accepted.1 >>= λ documents. indexes_at documents.1 >>= λ indexes. cases_at indexes.1 >>= λ cases. ended (record { accepted = accepted.0; documents = documents.0; indexes = indexes.0; cases = cases.0 }) cases.1) s is in
    let b = bind_some (documents_at a.0.1) (λ documents. indexes_at documents.1 >>= λ indexes. cases_at indexes.1 >>= λ cases. ended (record { accepted = a.0.0; documents = documents.0; indexes = indexes.0; cases = cases.0 }) cases.1) s a.2 in
    let c = bind_some (indexes_at b.0.1) (λ indexes. cases_at indexes.1 >>= λ cases. ended (record { accepted = a.0.0; documents = b.0.0; indexes = indexes.0; cases = cases.0 }) cases.1) s b.2 in
    let d = bind_some (cases_at c.0.1) (λ cases. ended (record { accepted = a.0.0; documents = b.0.0; indexes = c.0.0; cases = cases.0 }) cases.1) s c.2 in
    let made : Snap = record { accepted = a.0.0; documents = b.0.0; indexes = c.0.0; cases = d.0.0 } in
    let end = ended_is made s d.0.1 d.2 in
    let t = number_takes 8 eight from_eight (2 ^ 64) wide_eight bytes a.0 fits a.1 in
    let u = list_taken tree_bytes (tree_at limits.depth) (IsTree limits.depth) (trees_taken limits.depth) a.0.1 b.0 t.0.rest_fits b.1 in
    let v = list_taken four four_at (λ n. n < 2 ^ 32) four_taken b.0.1 c.0 u.0.rest_fits c.1 in
    let w = list_taken two two_at (λ n. n < 2 ^ 16) two_taken c.0.1 d.0 v.0.rest_fits d.1 in
    let documents = flat_map tree_bytes b.0.0 in
    let indexes = flat_map four c.0.0 in
    let cases = list_bytes two d.0.0 in
    let last : d.0.1 ≡ [] = end.1 in
    let third : c.0.1 ≡ cases = w.0.parts ∙ ap (λ (l : List ℕ). cases ++ l) last ∙ append-nil cases in
    let second : b.0.1 ≡ two (length c.0.0) ++ (indexes ++ cases) = v.0.parts ∙ ap (λ (l : List ℕ). list_bytes four c.0.0 ++ l) third ∙ append_assoc (two (length c.0.0)) indexes cases in
    let behind = two (length c.0.0) ++ (indexes ++ cases) in
    let first : a.0.1 ≡ two (length b.0.0) ++ (documents ++ behind) = u.0.parts ∙ ap (λ (l : List ℕ). list_bytes tree_bytes b.0.0 ++ l) second ∙ append_assoc (two (length b.0.0)) documents behind in
    let whole : bytes ≡ bytes_of made = t.0.parts ∙ ap (λ (l : List ℕ). eight a.0.0 ++ l) first in
    let read : IsRead made = record {
      fit = each_all (λ tree. is_fit tree limits.depth) b.0.0 (each_in (IsTree limits.depth) (λ tree. is_fit tree limits.depth ≡ true) b.0.0 (λ tree h. h.0) u.2);
      typed = each_all is_typed b.0.0 (each_in (IsTree limits.depth) (λ tree. is_typed tree ≡ true) b.0.0 (λ tree h. h.1) u.2);
      few_documents = u.1;
      few_indexes = v.1;
      few_cases = w.1;
      indexes = each_all (λ index. nat_lt index (2 ^ 32)) c.0.0 (each_in (λ n. n < 2 ^ 32) (λ n. nat_lt n (2 ^ 32) ≡ true) c.0.0 (λ n h. le-leb (suc n) (2 ^ 32) h) v.2);
      cases = each_all (λ place. nat_lt place (2 ^ 16)) d.0.0 (each_in (λ n. n < 2 ^ 16) (λ n. nat_lt n (2 ^ 16) ≡ true) d.0.0 (λ n h. le-leb (suc n) (2 ^ 16) h) w.2);
    } in
    subst (λ (z : Snap). (bytes ≡ bytes_of z) × IsRead z) end.0 (whole, read)

-- the parts of the test of the whole
kept_parts : (s : Snap) → keeps_limits s ≡ true → (((nat_lt s.accepted (2 ^ 63) ≡ true) × (list_all is_element s.documents ≡ true)) × (nat_le (sum_by tree_nodes s.documents) limits.nodes ≡ true)) × (nat_le (sum_by tree_size s.documents) limits.all ≡ true)
kept_parts s kept =
    let all = and_parts (nat_lt s.accepted (2 ^ 63) && list_all is_element s.documents && nat_le (sum_by tree_nodes s.documents) limits.nodes) (nat_le (sum_by tree_size s.documents) limits.all) kept in
    let front = and_parts (nat_lt s.accepted (2 ^ 63) && list_all is_element s.documents) (nat_le (sum_by tree_nodes s.documents) limits.nodes) all.0 in
    ((and_parts (nat_lt s.accepted (2 ^ 63)) (list_all is_element s.documents) front.0, front.1), all.1)

pub snap_taken : (bytes : List ℕ) (s : Snap) → IsBytes bytes → snap_in bytes ≡ Some s → (bytes ≡ bytes_of s) × IsWithin s × IsTyped s
snap_taken bytes s fits is =
    let a = bind_some (snap_at bytes) (λ snap. if keeps_limits snap then Some snap else None) s is in
    let g = guard_then (keeps_limits a.0) (Some a.0) s a.2 in
    let r = read_taken bytes a.0 fits a.1 in
    let kept = kept_parts a.0 g.0 in
    let within : IsWithin a.0 = record {
      accepted = leb-true (suc a.0.accepted) (2 ^ 63) kept.0.0.0;
      elements = kept.0.0.1;
      fit = r.1.fit;
      nodes = leb-true (sum_by tree_nodes a.0.documents) limits.nodes kept.0.1;
      size = leb-true (sum_by tree_size a.0.documents) limits.all kept.1;
      few_documents = r.1.few_documents;
      few_indexes = r.1.few_indexes;
      few_cases = r.1.few_cases;
      small_cases = r.1.cases;
    } in
    let typed : IsTyped a.0 = record { documents = r.1.typed; indexes = r.1.indexes } in
    subst (λ (z : Snap). (bytes ≡ bytes_of z) × IsWithin z × IsTyped z) (some_is a.0 s g.1) (r.0, within, typed)

-- ---- what is spelled

read_again : (s : Snap) → IsWithin s → IsTyped s → snap_at (bytes_of s) ≡ Some s
unfolding snap_at documents_at indexes_at cases_at
read_again s within typed =
    let documents = list_bytes tree_bytes s.documents in
    let indexes = list_bytes four s.indexes in
    let cases = list_bytes two s.cases in
    let trees : AllByRecursion (Again tree_bytes (tree_at limits.depth)) s.documents =
    each_in (λ t. IsTree limits.depth t × (tree_nodes t < 65537)) (Again tree_bytes (tree_at limits.depth)) s.documents (λ t h. trees_again limits.depth t h.0 h.1)
    (each_both (IsTree limits.depth) (λ t. tree_nodes t < 65537) s.documents
    (each_both (λ t. is_fit t limits.depth ≡ true) (λ t. is_typed t ≡ true) s.documents (all_each (λ t. is_fit t limits.depth) s.documents within.fit) (all_each is_typed s.documents typed.documents))
    (each_within tree_nodes 65537 s.documents (omega (arith, within.nodes)))) in
    let fours : AllByRecursion (Again four four_at) s.indexes =
    each_in (λ n. nat_lt n (2 ^ 32) ≡ true) (Again four four_at) s.indexes (λ n h more. number_again 4 four from_four (2 ^ 32) wide_four n more (leb-true (suc n) (2 ^ 32) h)) (all_each (λ n. nat_lt n (2 ^ 32)) s.indexes typed.indexes) in
    let twos : AllByRecursion (Again two two_at) s.cases =
    each_in (λ n. nat_lt n (2 ^ 16) ≡ true) (Again two two_at) s.cases (λ n h more. number_again 2 two from_two (2 ^ 16) wide_two n more (leb-true (suc n) (2 ^ 16) h)) (all_each (λ n. nat_lt n (2 ^ 16)) s.cases within.small_cases) in
    let split : bytes_of s ≡ eight s.accepted ++ (documents ++ (indexes ++ cases)) =
    ap (λ (l : List ℕ). eight s.accepted ++ (two (length s.documents) ++ (flat_map tree_bytes s.documents ++ l))) (sym (append_assoc (two (length s.indexes)) (flat_map four s.indexes) cases))
    ∙ ap (λ (l : List ℕ). eight s.accepted ++ l) (sym (append_assoc (two (length s.documents)) (flat_map tree_bytes s.documents) (indexes ++ cases))) in
    let first : eight_at (bytes_of s) ≡ Some (s.accepted, documents ++ (indexes ++ cases)) =
    ap eight_at split ∙ number_again 8 eight from_eight (2 ^ 64) wide_eight s.accepted (documents ++ (indexes ++ cases)) (omega (arith, within.accepted)) in
    let second : documents_at (documents ++ (indexes ++ cases)) ≡ Some (s.documents, indexes ++ cases) = list_again tree_bytes (tree_at limits.depth) s.documents within.few_documents trees (indexes ++ cases) in
    let third : indexes_at (indexes ++ cases) ≡ Some (s.indexes, cases) = list_again four four_at s.indexes within.few_indexes fours cases in
    let fourth : cases_at cases ≡ Some (s.cases, []) = ap cases_at (sym (append-nil cases)) ∙ list_again two two_at s.cases within.few_cases twos [] in
    ap (λ (o : Front ℕ). o >>= λ accepted. documents_at accepted.1 >>= λ documents. indexes_at documents.1 >>= λ indexes. cases_at indexes.1 >>= λ cases. ended (record { accepted = accepted.0; documents = documents.0; indexes = indexes.0; cases = cases.0 }) cases.1) first
    ∙ ap (λ (o : Front (List Bare)). o >>= λ documents. indexes_at documents.1 >>= λ indexes. cases_at indexes.1 >>= λ cases. ended (record { accepted = s.accepted; documents = documents.0; indexes = indexes.0; cases = cases.0 }) cases.1) second
    ∙ ap (λ (o : Front (List ℕ)). o >>= λ indexes. cases_at indexes.1 >>= λ cases. ended (record { accepted = s.accepted; documents = s.documents; indexes = indexes.0; cases = cases.0 }) cases.1) third
    ∙ ap (λ (o : Front (List ℕ)). o >>= λ cases. ended (record { accepted = s.accepted; documents = s.documents; indexes = s.indexes; cases = cases.0 }) cases.1) fourth

pub snap_again : (s : Snap) → IsWithin s → IsTyped s → snap_in (bytes_of s) ≡ Some s
snap_again s within typed =
    let kept : keeps_limits s ≡ true =
    and_from (nat_lt s.accepted (2 ^ 63) && list_all is_element s.documents && nat_le (sum_by tree_nodes s.documents) limits.nodes) (nat_le (sum_by tree_size s.documents) limits.all)
    (and_from (nat_lt s.accepted (2 ^ 63) && list_all is_element s.documents) (nat_le (sum_by tree_nodes s.documents) limits.nodes)
    (and_from (nat_lt s.accepted (2 ^ 63)) (list_all is_element s.documents) (le-leb (suc s.accepted) (2 ^ 63) within.accepted) within.elements)
    (le-leb (sum_by tree_nodes s.documents) limits.nodes within.nodes))
    (le-leb (sum_by tree_size s.documents) limits.all within.size) in
    ap (λ (o : Option Snap). o >>= λ snap. if keeps_limits snap then Some snap else None) (read_again s within typed) ∙ guard_met (keeps_limits s) (Some s) kept

-- ---- of a result

pub is_found : {E : Type 0} (bytes : List ℕ) (r : Result (Option Snap) E) → IsBytes bytes → IfOk r (λ found. found ≡ snap_in bytes) → IfOk r (λ found. IfSome found (λ s. (bytes ≡ bytes_of s) × IsWithin s × IsTyped s))
is_found bytes (Ok (Some s)) fits is = snap_taken bytes s fits (sym is)
is_found bytes (Ok None) fits is = tt
is_found bytes (Err e) fits is = tt

pub is_only : {E : Type 0} (bytes : List ℕ) (r : Result (Option Snap) E) → IfOk r (λ found. found ≡ snap_in bytes) → (s : Snap) → IsWithin s → IsTyped s → bytes ≡ bytes_of s → IfOk r (λ found. found ≡ Some s)
is_only bytes (Ok found) is s within typed same = is ∙ ap snap_in same ∙ snap_again s within typed
is_only bytes (Err e) is s within typed same = tt
