-- The tables of a form's names, beside the lists that they stand for.
use Rattle.std.proofs.Common.{◌≡◌, ℕ, zero, suc, ◌+◌, ◌-◌, List, [], ◌∷◌, ◌++◌, map, length, Bool, true, false, cond, eqb, nat_eq, ◌||◌, Some, None, inl, inr, is_some, is_none, unwrap_or, ◌&&◌, option_map, slice_get, String, Global, string_bytes, refl, sym, ap, ◌∙◌, arith, add-zero, add_comm, add-one}
use Rattle.std.specs.Prelude.{option_and_then}
use Rattle.std.specs.declared.option.Option.{Option}
use Rattle.std.specs.List.{position_from, position, list_any}
use Rattle.std.specs.Str.{bytes_eq}
use Rattle.std.specs.String.{string_eq}
use Rattle.indexmap.specs.IndexSet.{insert_key}
use Rattle.indexmap.specs.IndexMap.{insert_entry}
use Rattle.std.proofs.lemmas.Iterator.Adapters.{position_from-zero}
use Rattle.std.proofs.lemmas.Bool.Decides.{eqb_tells}
use Rattle.xf_name.specs.Part.{is_part}
use Rattle.xf_name.specs.Bindings.{Bindings, numbers_from, space_number, prefix_numbers, xml_space, xml_prefix, xml_number, numbered, text_of_space, text_of_prefix, space_of_prefix}
use Rattle.xf_name.specs.Declarations.{with_space, with_prefix, with_last_prefix}

-- ---- the place of an item, counted from another number, and in a list that is mapped

position_from-map : {A B : Type 0} (p : B → Bool) (f : A → B) (n : ℕ) (xs : List A) → position_from p n (map f xs) ≡ position_from (λ x. p (f x)) n xs
position_from-map p f n [] = refl
position_from-map p f n (x ∷ xs) = ap (cond (p (f x)) (Some n)) (position_from-map p f (n + 1) xs)

one_more : (b : Bool) (n : ℕ) (o : Option ℕ) → cond b (Some (n + 1)) (option_map (λ i. i + 1) o) ≡ option_map (λ i. i + 1) (cond b (Some n) o)
one_more true n o = refl
one_more false n o = refl

position_from-next : {A : Type 0} (p : A → Bool) (n : ℕ) (xs : List A) → position_from p (n + 1) xs ≡ option_map (λ i. i + 1) (position_from p n xs)
position_from-next p n [] = refl
position_from-next p n (x ∷ xs) = ap (cond (p x) (Some (n + 1))) (position_from-next p (n + 1) xs) ∙ one_more (p x) n (position_from p (n + 1) xs)

-- the number of a namespace is one more than its place
pub number_is : (uri : List ℕ) (keys : List (String Global)) → position_from (bytes_eq uri) 1 (map string_bytes keys) ≡ option_map (λ i. i + 1) (position (λ k. bytes_eq uri (string_bytes k)) keys)
number_is uri keys =
    position_from-map (bytes_eq uri) string_bytes 1 keys ∙ position_from-next (λ k. bytes_eq uri (string_bytes k)) 0 keys
    ∙ ap (option_map (λ i. i + 1)) (sym (position_from-zero (λ k. bytes_eq uri (string_bytes k)) keys))

-- a table of namespaces finds the number of one that is not XML's
pub space_found : (b : Bindings) (uri : List ℕ) (keys : List (String Global)) (place : Option ℕ) → map string_bytes keys ≡ b.spaces → false ≡ bytes_eq uri xml_space → place ≡ position (λ k. bytes_eq uri (string_bytes k)) keys
    → option_map (λ i. i + 1) place ≡ space_number b uri
space_found b uri keys place shown other at =
    ap (option_map (λ i. i + 1)) at ∙ sym (number_is uri keys) ∙ ap (position_from (bytes_eq uri) 1) shown ∙ ap (λ x. cond x (Some xml_number) (position_from (bytes_eq uri) 1 b.spaces)) other

-- ---- prefixes

abbrev pub Entry : Type 0
Entry = String Global × ℕ

abbrev pub entry_view : Entry → List ℕ × ℕ
entry_view e = (string_bytes e.0, e.1)

abbrev pub found : ℕ → List Entry → Option ℕ → Option (ℕ × ℕ)
found n es place = option_and_then (λ i. option_map (λ e. (n + i, e.1)) (slice_get es i)) place

abbrev pub names : List ℕ → String Global → Bool
names q k = bytes_eq q (string_bytes k)

slice_get-later : (e : Entry) (es : List Entry) (i : ℕ) → slice_get es i ≡ slice_get (e ∷ es) (i + 1)
slice_get-later e es i = ap (slice_get (e ∷ es)) (sym (add-one i))

found-next : (n : ℕ) (e : Entry) (es : List Entry) (place : Option ℕ) → found (n + 1) es place ≡ found n (e ∷ es) (option_map (λ i. i + 1) place)
found-next n e es None = refl
found-next n e es (Some i) =
    let moved : n + 1 + i ≡ n + (i + 1) = omega arith in
    ap (λ k. option_map (λ x. (k, x.1)) (slice_get es i)) moved ∙ ap (option_map (λ x. (n + (i + 1), x.1))) (slice_get-later e es i)

first_or_later : (b : Bool) (n : ℕ) (e : Entry) (es : List Entry) (place : Option ℕ) → cond b (Some (n, e.1)) (found n (e ∷ es) place) ≡ found n (e ∷ es) (cond b (Some 0) place)
first_or_later true n e es place = ap (λ k. Some (k, e.1)) (sym (add-zero n))
first_or_later false n e es place = refl

numbers_from-is : (q : List ℕ) (n : ℕ) (es : List Entry) → numbers_from n (map entry_view es) q ≡ found n es (position_from (names q) 0 (map (λ e. e.0) es))
numbers_from-is q n [] = refl
numbers_from-is q n (e ∷ es) =
    let keys : List (String Global) = map (λ x. x.0) es in
    ap (cond (names q e.0) (Some (n, e.1))) (numbers_from-is q (n + 1) es ∙ found-next n e es (position_from (names q) 0 keys) ∙ ap (found n (e ∷ es)) (sym (position_from-next (names q) 0 keys)))
    ∙ first_or_later (names q e.0) n e es (position_from (names q) 1 keys)

-- a table of prefixes finds the numbers of one that is not `xml`
pub prefix_found : (b : Bindings) (q : List ℕ) (es : List Entry) (place : Option ℕ) → map entry_view es ≡ b.prefixes → false ≡ bytes_eq q xml_prefix → place ≡ position (names q) (map (λ e. e.0) es)
    → found 1 es place ≡ prefix_numbers b q
prefix_found b q es place shown other at =
    ap (found 1 es) (at ∙ position_from-zero (names q) (map (λ e. e.0) es)) ∙ sym (numbers_from-is q 1 es) ∙ ap (λ ps. numbers_from 1 ps q) shown
    ∙ ap (λ x. cond x (Some (xml_number, xml_number)) (numbers_from 1 b.prefixes q)) other

pub found_at : (i : ℕ) (es : List Entry) (k : String Global) (v : ℕ) → slice_get es i ≡ Some (k, v) → found 1 es (Some i) ≡ Some (i + 1, v)
found_at i es k v at = ap (option_map (λ e. (1 + i, e.1))) at ∙ ap (λ n. Some (n, v)) (add_comm 1 i)

-- ---- what stands at a number

slice_get-map : {A B : Type 0} (f : A → B) (xs : List A) (i : ℕ) → option_map f (slice_get xs i) ≡ slice_get (map f xs) i
slice_get-map f [] i = refl
slice_get-map f (x ∷ xs) zero = refl
slice_get-map f (x ∷ xs) (suc i) = slice_get-map f xs i

-- an item by its number
pub numbered-is : {A B : Type 0} (f : A → B) (xs : List A) (n : ℕ) → (n ≡ 0 → ⊥) → option_map f (slice_get xs (n - 1)) ≡ numbered (map f xs) n
numbered-is f xs zero some = absurd (some refl)
numbered-is f xs (suc i) some = let before : suc i - 1 ≡ i = omega arith in ap (λ k. option_map f (slice_get xs k)) before ∙ slice_get-map f xs i

unless_equal : {A : Type 0} (n m : ℕ) (x y : A) → (n ≡ m → ⊥) → cond (eqb n m) x y ≡ y
unless_equal n m x y other = elim (eqb_tells n m) [ inl p ↦ absurd (other p.1) | inr p ↦ ap (λ t. cond t x y) p.0 ]

pub space_text-is : (b : Bindings) (n : ℕ) (keys : List (String Global)) → map string_bytes keys ≡ b.spaces → (n ≡ xml_number → ⊥) → (n ≡ 0 → ⊥) → option_map string_bytes (slice_get keys (n - 1)) ≡ text_of_space b n
space_text-is b n keys shown other some = numbered-is string_bytes keys n some ∙ ap (λ xs. numbered xs n) shown ∙ sym (unless_equal n xml_number (Some xml_space) (numbered b.spaces n) other)

name_of : (o : Option Entry) → option_map (λ e. string_bytes e.0) o ≡ option_map (λ p. p.0) (option_map entry_view o)
name_of None = refl
name_of (Some e) = refl

pub prefix_text-is : (b : Bindings) (n : ℕ) (es : List Entry) → map entry_view es ≡ b.prefixes → (n ≡ xml_number → ⊥) → (n ≡ 0 → ⊥) → option_map (λ e. string_bytes e.0) (slice_get es (n - 1)) ≡ text_of_prefix b n
prefix_text-is b n es shown other some =
    name_of (slice_get es (n - 1)) ∙ ap (option_map (λ p. p.0)) (numbered-is entry_view es n some ∙ ap (λ xs. numbered xs n) shown)
    ∙ sym (unless_equal n xml_number (Some xml_prefix) (option_map (λ p. p.0) (numbered b.prefixes n)) other)

space_in : (o : Option Entry) → option_map (λ e. e.1) o ≡ option_map (λ p. p.1) (option_map entry_view o)
space_in None = refl
space_in (Some e) = refl

pub prefix_space-is : (b : Bindings) (n : ℕ) (es : List Entry) → map entry_view es ≡ b.prefixes → (n ≡ xml_number → ⊥) → (n ≡ 0 → ⊥) → option_map (λ e. e.1) (slice_get es (n - 1)) ≡ space_of_prefix b n
prefix_space-is b n es shown other some =
    space_in (slice_get es (n - 1)) ∙ ap (option_map (λ p. p.1)) (numbered-is entry_view es n some ∙ ap (λ xs. numbered xs n) shown)
    ∙ sym (unless_equal n xml_number (Some xml_number) (option_map (λ p. p.1) (numbered b.prefixes n)) other)

-- ---- one more namespace, one more prefix

here_or_later : (t : Bool) (n : ℕ) (o : Option ℕ) → is_some (cond t (Some n) o) ≡ (t || is_some o)
here_or_later true n o = refl
here_or_later false n o = refl

later_none : {A : Type 0} (x : A) (t : Bool) (o : Option A) → is_some (cond t (Some x) o) ≡ false → is_some o ≡ false
later_none x true o h = cc
later_none x false o h = h

map-push : {A B : Type 0} (f : A → B) (xs : List A) (x : A) → map f (xs ++ x ∷ []) ≡ map f xs ++ f x ∷ []
map-push f [] x = refl
map-push f (y ∷ ys) x = ap (λ l. f y ∷ l) (map-push f ys x)

listed : (p : List ℕ → Bool) (n : ℕ) (keys : List (String Global)) → is_some (position_from p n (map string_bytes keys)) ≡ list_any (λ k. p (string_bytes k)) keys
listed p n [] = refl
listed p n (k ∷ keys) = here_or_later (p (string_bytes k)) n (position_from p (n + 1) (map string_bytes keys)) ∙ ap (λ t. p (string_bytes k) || t) (listed p (n + 1) keys)

unlisted : (b : Bindings) (uri : List ℕ) (keys : List (String Global)) (k : String Global) → map string_bytes keys ≡ b.spaces → string_bytes k ≡ uri → is_some (space_number b uri) ≡ false → list_any (string_eq k) keys ≡ false
unlisted b uri keys k shown is new =
    ap (λ u. list_any (λ y. bytes_eq u (string_bytes y)) keys) is ∙ sym (listed (bytes_eq uri) 1 keys) ∙ ap (λ xs. is_some (position_from (bytes_eq uri) 1 xs)) shown
    ∙ later_none xml_number (bytes_eq uri xml_space) (position_from (bytes_eq uri) 1 b.spaces) new

pub space_added : (b : Bindings) (uri : List ℕ) (keys new : List (String Global)) (k : String Global) → map string_bytes keys ≡ b.spaces → string_bytes k ≡ uri → nat_eq (length uri) 0 ≡ false → is_some (space_number b uri) ≡ false
    → new ≡ insert_key string_eq keys k → record b { spaces = map string_bytes new } ≡ with_space b uri
space_added b [] keys new k shown is some none made = cc
space_added b (c ∷ cs) keys new k shown is some none made =
    let last : new ≡ keys ++ k ∷ [] = made ∙ ap (λ t. cond t keys (keys ++ k ∷ [])) (unlisted b (c ∷ cs) keys k shown is none) in
    let listing : map string_bytes new ≡ b.spaces ++ (c ∷ cs) ∷ [] = ap (map string_bytes) last ∙ map-push string_bytes keys k ∙ ap (λ xs. xs ++ string_bytes k ∷ []) shown ∙ ap (λ u. b.spaces ++ u ∷ []) is in
    ap (λ xs. record b { spaces = xs }) listing ∙ ap (λ t. cond t b (record b { spaces = b.spaces ++ (c ∷ cs) ∷ [] })) (sym none)

kept_by : (t : Bool) (b : Bindings) (spaces : List (List ℕ)) → (cond t b (record b { spaces = spaces })).prefixes ≡ b.prefixes
kept_by true b spaces = refl
kept_by false b spaces = refl

with_space-prefixes : (b : Bindings) (uri : List ℕ) → (with_space b uri).prefixes ≡ b.prefixes
with_space-prefixes b [] = refl
with_space-prefixes b (c ∷ cs) = kept_by (is_some (space_number b (c ∷ cs))) b (b.spaces ++ (c ∷ cs) ∷ [])

absent_later : (t : Bool) (n v : ℕ) (later : Option (ℕ × ℕ)) → is_some (cond t (Some (n, v)) later) ≡ false → (t ≡ false) × (is_some later ≡ false)
absent_later true n v later h = cc
absent_later false n v later h = (refl, h)

inserted_last : (n : ℕ) (es : List Entry) (k : String Global) (v : ℕ) → is_some (numbers_from n (map entry_view es) (string_bytes k)) ≡ false → insert_entry string_eq es k v ≡ es ++ (k, v) ∷ []
inserted_last n [] k v none = refl
inserted_last n (e ∷ es) k v none =
    let parts = absent_later (bytes_eq (string_bytes k) (string_bytes e.0)) n e.1 (numbers_from (n + 1) (map entry_view es) (string_bytes k)) none in
    ap (λ t. cond t ((e.0, v) ∷ es) (e ∷ insert_entry string_eq es k v)) parts.0 ∙ ap (λ l. e ∷ l) (inserted_last (n + 1) es k v parts.1)

both : (s t : Bool) → s ≡ true → t ≡ true → (s && t) ≡ true
both s t x y = ap (λ u. u && t) x ∙ y

not_known : {A : Type 0} (o : Option A) → is_some o ≡ false → is_none o ≡ true
not_known None h = refl
not_known (Some x) h = cc

pub prefix_added : (b now : Bindings) (q uri : List ℕ) (es new : List Entry) (k : String Global) (v : ℕ) → map entry_view es ≡ now.prefixes → now ≡ with_space b uri → string_bytes k ≡ q → nat_eq (length uri) 0 ≡ false → is_part q ≡ true
    → is_some (prefix_numbers b q) ≡ false → v ≡ unwrap_or (space_number now uri) 0 → new ≡ insert_entry string_eq es k v → record now { prefixes = map entry_view new } ≡ with_prefix b q uri
prefix_added b now q [] es new k v shown spaced is some part none bound made = cc
prefix_added b now q (c ∷ cs) es new k v shown spaced is some part none bound made =
    let uri : List ℕ = c ∷ cs in
    let known : map entry_view es ≡ b.prefixes = shown ∙ ap (λ x. x.prefixes) spaced ∙ with_space-prefixes b uri in
    let absent : is_some (numbers_from 1 (map entry_view es) (string_bytes k)) ≡ false =
    ap (λ x. is_some (numbers_from 1 (map entry_view es) x)) is ∙ ap (λ ps. is_some (numbers_from 1 ps q)) known
    ∙ later_none (xml_number, xml_number) (bytes_eq q xml_prefix) (numbers_from 1 b.prefixes q) none in
    let last : new ≡ es ++ (k, v) ∷ [] = made ∙ inserted_last 1 es k v absent in
    let listing : map entry_view new ≡ now.prefixes ++ (q, unwrap_or (space_number now uri) 0) ∷ [] =
    ap (map entry_view) last ∙ map-push entry_view es (k, v) ∙ ap (λ ps. ps ++ entry_view (k, v) ∷ []) shown ∙ ap (λ x. now.prefixes ++ (x, v) ∷ []) is ∙ ap (λ x. now.prefixes ++ (q, x) ∷ []) bound in
    let with_prefixes : List (List ℕ × ℕ) → Bindings = λ ps. record now { prefixes = ps } in
    ap with_prefixes listing ∙ ap (λ x. with_last_prefix x q uri) spaced ∙ ap (λ t. cond t (with_last_prefix (with_space b uri) q uri) b) (sym (both (is_part q) (is_none (prefix_numbers b q)) part (not_known (prefix_numbers b q) none)))
