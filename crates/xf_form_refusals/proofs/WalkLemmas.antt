-- The walk of a form, level by level.
use Rattle.std.proofs.Common.{◌≡◌, ℕ, ◌+◌, ◌<◌, List, [], ◌∷◌, ◌++◌, map, drop, length, get_or, set, Bool, sym, ap, ◌∙◌, subst, append_assoc, length-append}
use Rattle.std.proofs.lemmas.List.{drop_more, append-nil, set_at}
use Rattle.xf_def_syntax.specs.declared.element.Part.{Part}
use Rattle.xf_def_syntax.specs.declared.element.Part.TheVariants as part
use Rattle.xf_name.specs.Bindings.{Bindings}
use Rattle.xf_name.specs.declared.lit.Lit.{Lit}
use Rattle.xf_name.specs.declared.lit.Lit.TheOpen.{Lit-F}
use Rattle.xf_name.specs.declared.lit.Lit.TheFolds.{fold-roll-Lit, fold_out-LitElement}
use Rattle.xf_name.specs.declared.lit.Lit.TheVariants.{Text, Element, rolls-Text, rolls-Element}
use Rattle.xf_name.specs.declared.lit.LitElement.{LitElement}
use Rattle.xf_form_refusals.specs.Rows.{Seen}
use Rattle.xf_form_refusals.specs.Standing.{space_below, below}
use Rattle.xf_form_vocabulary.specs.declared.tag.Tag.{Tag}
use Rattle.xf_form_refusals.specs.Walk.{Walk, Piece, text, element, piece, walk, piece_of, walk_of, rows_in, parts_in, rows_from, parts_from, text_if, tag_in, inside_of, keeps, AddsAll}
use Rattle.xf_form_refusals.specs.declared.standing.Standing.{Standing}

-- ---- the equations of the walk

pub piece_of-Text : (b : Bindings) (t : List ℕ) → piece_of b (Text t) ≡ text t
piece_of-Text b t = ap (piece_of b) (sym (rolls-Text t)) ∙ fold-roll-Lit Piece Walk piece (walk b) (Lit-F.Text t)

pub piece_of-Element : (b : Bindings) (e : LitElement) → piece_of b (Element e) ≡ element (walk_of b e)
piece_of-Element b e = ap (piece_of b) (sym (rolls-Element e)) ∙ fold-roll-Lit Piece Walk piece (walk b) (Lit-F.Element e)

-- an element with what stands in it
abbrev pub head : Bindings → LitElement → Standing → ℕ → List Part → Seen
head b e s at parts = record { name = e.name; attributes = e.attributes; tag = tag_in b s.zone e.name (space_below b s.space e.attributes); standing = s; at = at; parts = parts }

abbrev pub inside : Bindings → LitElement → Standing → ℕ → Standing
inside b e s n = inside_of b e.name (space_below b s.space e.attributes) s n

pub walk_of-is : (b : Bindings) (e : LitElement) (s : Standing) (at n : ℕ)
    → walk_of b e s at n ≡ head b e s at (parts_from (keeps (inside b e s n)) (inside b e s n) 0 (n + 1) (map (piece_of b) e.children)) ∷ rows_from (inside b e s n) 0 (n + 1) (map (piece_of b) e.children)
walk_of-is b e s at n = ap (λ w. w s at n) (fold_out-LitElement Piece Walk piece (walk b) e)

-- ---- what stands in an element

pub text_rows : (b : Bindings) (lit : Lit) (t : List ℕ) (s : Standing) (at n : ℕ) (xs : List Seen) → lit ≡ Text t → xs ≡ xs ++ rows_in (piece_of b lit) s at n
text_rows b lit t s at n xs is = sym (ap (λ p. xs ++ rows_in p s at n) (ap (piece_of b) is ∙ piece_of-Text b t) ∙ append-nil xs)

pub text_parts : (b : Bindings) (lit : Lit) (t : List ℕ) (keep : Bool) (n : ℕ) (xs ys : List Part) → lit ≡ Text t → ys ≡ xs ++ text_if keep t → ys ≡ xs ++ parts_in (piece_of b lit) keep n
text_parts b lit t keep n xs ys is e = e ∙ sym (ap (λ p. xs ++ parts_in p keep n) (ap (piece_of b) is ∙ piece_of-Text b t))

pub element_rows : (b : Bindings) (lit : Lit) (e : LitElement) (s : Standing) (at n : ℕ) (xs ys : List Seen) → lit ≡ Element e → ys ≡ xs ++ walk_of b e s at n → ys ≡ xs ++ rows_in (piece_of b lit) s at n
element_rows b lit e s at n xs ys is h = h ∙ sym (ap (λ p. xs ++ rows_in p s at n) (ap (piece_of b) is ∙ piece_of-Element b e))

pub element_parts : (b : Bindings) (lit : Lit) (e : LitElement) (keep : Bool) (n : ℕ) (xs ys : List Part) → lit ≡ Element e → ys ≡ xs ++ part.Element n ∷ [] → ys ≡ xs ++ parts_in (piece_of b lit) keep n
element_parts b lit e keep n xs ys is h = h ∙ sym (ap (λ p. xs ++ parts_in p keep n) (ap (piece_of b) is ∙ piece_of-Element b e))

-- ---- from a place on

pieces_more : (b : Bindings) (cs : List Lit) (i : ℕ) (x : Lit) → i < length cs → x ≡ get_or cs i x → map (piece_of b) (drop i cs) ≡ piece_of b x ∷ map (piece_of b) (drop (i + 1) cs)
pieces_more b cs i x h e = ap (map (piece_of b)) (drop_more cs i x h ∙ ap (λ y. y ∷ drop (i + 1) cs) (sym e))

pub rows_step : (b : Bindings) (cs : List Lit) (i n m : ℕ) (x : Lit) (s : Standing) (now next : List Seen) → i < length cs → x ≡ get_or cs i x → next ≡ now ++ rows_in (piece_of b x) s i n → length now ≡ n → length next ≡ m
    → next ++ rows_from s (i + 1) m (map (piece_of b) (drop (i + 1) cs)) ≡ now ++ rows_from s i n (map (piece_of b) (drop i cs))
rows_step b cs i n m x s now next h e is short long =
    let first = rows_in (piece_of b x) s i n in
    let rest = map (piece_of b) (drop (i + 1) cs) in
    let sum : m ≡ n + length first = sym long ∙ ap length is ∙ length-append now first ∙ ap (λ k. k + length first) short in
    ap (λ k. next ++ rows_from s (i + 1) k rest) sum ∙ ap (λ l. l ++ rows_from s (i + 1) (n + length first) rest) is ∙ append_assoc now first (rows_from s (i + 1) (n + length first) rest)
    ∙ ap (λ ps. now ++ rows_from s i n ps) (sym (pieces_more b cs i x h e))

pub parts_step : (b : Bindings) (cs : List Lit) (i n m : ℕ) (x : Lit) (keep : Bool) (s : Standing) (now next : List Seen) (parts more : List Part) → i < length cs → x ≡ get_or cs i x → next ≡ now ++ rows_in (piece_of b x) s i n
    → length now ≡ n → length next ≡ m → more ≡ parts ++ parts_in (piece_of b x) keep n
    → more ++ parts_from keep s (i + 1) m (map (piece_of b) (drop (i + 1) cs)) ≡ parts ++ parts_from keep s i n (map (piece_of b) (drop i cs))
parts_step b cs i n m x keep s now next parts more h e is short long taken =
    let first = rows_in (piece_of b x) s i n in
    let rest = map (piece_of b) (drop (i + 1) cs) in
    let sum : m ≡ n + length first = sym long ∙ ap length is ∙ length-append now first ∙ ap (λ k. k + length first) short in
    ap (λ k. more ++ parts_from keep s (i + 1) k rest) sum ∙ ap (λ l. l ++ parts_from keep s (i + 1) (n + length first) rest) taken
    ∙ append_assoc parts (parts_in (piece_of b x) keep n) (parts_from keep s (i + 1) (n + length first) rest) ∙ ap (λ ps. parts ++ parts_from keep s i n ps) (sym (pieces_more b cs i x h e))

-- ---- an element goes before what stands in it

pub element_added : (b : Bindings) (e : LitElement) (s : Standing) (at n : ℕ) (old after final : List Seen) (first last : Seen) (parts : List Part) → length old ≡ n
    → AddsAll (map (piece_of b) e.children) (inside b e s n) (old ++ first ∷ []) after parts → last ≡ head b e s at parts → final ≡ set after n last → final ≡ old ++ walk_of b e s at n
element_added b e s at n old after final first last parts short added is put =
    let ps = map (piece_of b) e.children in
    let i = inside b e s n in
    let one_more : length (old ++ first ∷ []) ≡ n + 1 = length-append old (first ∷ []) ∙ ap (λ k. k + 1) short in
    let rest = rows_from i 0 (n + 1) ps in
    let all : after ≡ old ++ first ∷ rest = added.rows ∙ ap (λ k. (old ++ first ∷ []) ++ rows_from i 0 k ps) one_more ∙ append_assoc old (first ∷ []) rest in
    let told : parts ≡ parts_from (keeps i) i 0 (n + 1) ps = added.parts_are ∙ ap (λ k. parts_from (keeps i) i 0 k ps) one_more in
    put ∙ ap (λ l. set l n last) all ∙ set_at old first rest last n short ∙ ap (λ h. old ++ h ∷ rest) (is ∙ ap (head b e s at) told) ∙ ap (λ l. old ++ l) (sym (walk_of-is b e s at n))

-- the same, by what the code has at hand
pub element_put : (b : Bindings) (e : LitElement) (s : Standing) (at n : ℕ) (old mid after final : List Seen) (first last : Seen) (parts : List Part) (cs : List Lit) (i : Standing) → length old ≡ n → mid ≡ old ++ first ∷ []
    → cs ≡ e.children → i ≡ inside b e s n → AddsAll (map (piece_of b) cs) i mid after parts → last ≡ head b e s at parts → final ≡ set after n last → final ≡ old ++ walk_of b e s at n
element_put b e s at n old mid after final first last parts cs i short pushed same is added told put =
    element_added b e s at n old after final first last parts short
    (subst (λ j. AddsAll (map (piece_of b) e.children) j (old ++ first ∷ []) after parts) is
    (subst (λ ds. AddsAll (map (piece_of b) ds) i (old ++ first ∷ []) after parts) same (subst (λ m. AddsAll (map (piece_of b) cs) i m after parts) pushed added)))
    told put

-- the tag and the surroundings, by the calls that make them
pub tag_is : (b : Bindings) (e : LitElement) (s : Standing) (t : Tag) (name : List ℕ) (space : ℕ) → t ≡ tag_in b s.zone name space → name ≡ e.name → space ≡ space_below b s.space e.attributes
    → t ≡ tag_in b s.zone e.name (space_below b s.space e.attributes)
tag_is b e s t name space is named spaced = is ∙ ap (λ x. tag_in b s.zone x space) named ∙ ap (tag_in b s.zone e.name) spaced

pub inside_is : (b : Bindings) (e : LitElement) (s i : Standing) (t : Tag) (space k n : ℕ) → i ≡ below s t space k → t ≡ tag_in b s.zone e.name (space_below b s.space e.attributes) → space ≡ space_below b s.space e.attributes → k ≡ n
    → i ≡ inside b e s n
inside_is b e s i t space k n is tagged spaced placed =
    is ∙ ap (λ x. below s x space k) tagged ∙ ap (λ x. below s (tag_in b s.zone e.name (space_below b s.space e.attributes)) x k) spaced
    ∙ ap (below s (tag_in b s.zone e.name (space_below b s.space e.attributes)) (space_below b s.space e.attributes)) placed

pub head_is : (b : Bindings) (e : LitElement) (s : Standing) (at : ℕ) (parts : List Part) (t : Tag) → t ≡ tag_in b s.zone e.name (space_below b s.space e.attributes)
    → record { name = e.name; attributes = e.attributes; tag = t; standing = s; at = at; parts = parts } ≡ head b e s at parts
head_is b e s at parts t is =
    let with_tag : Tag → Seen = λ x. record { name = e.name; attributes = e.attributes; tag = x; standing = s; at = at; parts = parts } in
    ap with_tag is
