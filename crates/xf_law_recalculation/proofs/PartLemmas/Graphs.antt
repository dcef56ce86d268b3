-- What the entries of a model ask over the part they ask over the whole list; so their graph is the same, and what they are worth.
use Rattle.std.proofs.Common.{◌≡◌, ℕ, ◌+◌, ◌==◌, Bool, true, false, cond, List, [], ◌∷◌, ◌++◌, map, length, Option, Some, None, refl, sym, ap, ◌∙◌}
use Rattle.std.specs.Prelude.{filter, fold, ⊤}
use Rattle.std.specs.List.{list_any}
use Rattle.std.proofs.lemmas.Bool.{eqb-true}
use Rattle.xf_def_syntax.specs.declared.form.Tables.{Tables}
use Rattle.xf_def_forest.specs.Visit.{Visit, has, ancestors_of}
use Rattle.xf_def_forest.specs.StringValue.{string_value}
use Rattle.xf_def_values.specs.Functions.{Functions}
use Rattle.xf_def_xpath.specs.Given.{Document, Given}
use Rattle.xf_def_xpath.specs.Setting.{Setting, ◌>>=◌}
use Rattle.xf_def_xpath.specs.Conversions.{string_of}
use Rattle.xf_def_xpath.specs.Reads.{reads_in, looks_in}
use Rattle.xf_def_xpath.proofs.VisitFacts.{no}
use Rattle.xf_def_xpath.proofs.ForestVisits.{Each, each-filter}
use Rattle.xf_def_model.specs.Rules.{Computed, Scope, scope_of}
use Rattle.xf_def_model.specs.Nested.{setting_for}
use Rattle.xf_def_model.specs.Applied.{Entry, is_calculate}
use Rattle.xf_def_model.specs.Entries.{expression_of, is_computed, focus_of, value_by, value_of, text_of, reads_by, looks_by, reads_of, looks_of, touches, asked_size, edge_count}
use Rattle.xf_def_model.specs.Circular.{Reader, by_nodes, calculated, places_of, dependents, graph_over}
use Rattle.xf_law_recalculation.specs.Within.Within.{Whole, kept, over_part}
use Rattle.xf_law_recalculation.proofs.WithinLemmas.Within.{In, above-same}
use Rattle.xf_law_recalculation.proofs.WithinLemmas.Seen.{Inside, string-same}
use Rattle.xf_law_recalculation.proofs.WithinLemmas.Told.{Told, Agree, agree-then, agree-any}
use Rattle.xf_law_recalculation.proofs.WithinLemmas.Reading.{reads-same, reads-inside, looks-same, looks-inside}
use Rattle.xf_law_recalculation.proofs.PartLemmas.Binds.{HasPlaces, scope_with, setting-small, setting-sees, expression-known, ComputedKeeps}

pub map-on : {X Y : Type 0} (Q : X → Type 0) (f g : X → Y) (xs : List X) → Each Q xs → ((x : X) → Q x → f x ≡ g x) → map f xs ≡ map g xs
map-on Q f g [] e k = refl
map-on Q f g (x ∷ xs) e k = ap (λ y. y ∷ map f xs) (k x e.0) ∙ ap (λ l. g x ∷ l) (map-on Q f g xs e.1 k)

module _ (p : ℕ → Bool) (functions : Functions) (given : Given) (tables : Tables) (model : ℕ) (documents : List Document) (h : HasPlaces p (scope_of functions given tables model) documents) (all : List Visit) (whole : Each (Whole p) all) where
  abbrev large : Scope
  large = scope_of functions given tables model

  abbrev S : Scope
  S = scope_with documents large

  abbrev InPart : Entry → Type 0
  InPart e = p e.node ≡ true

  abbrev over : Option ℕ → Entry → Setting
  over most e = over_part p (setting_for most large all e.node) (λ m. string_value m (kept p all)) documents

  -- ---- what is asked

  pub reads-ok : (e : Entry) → InPart e → (reads_of S (kept p all) e ≡ reads_of large all e) × In p (reads_of large all e)
  reads-ok e i = by (expression_of large e) (expression-known p functions given tables model e)
    where
      by : (o : Option Computed) → Told (ComputedKeeps p) o → (reads_by S (kept p all) e o ≡ reads_by large all e o) × In p (reads_by large all e o)
      by None t = (refl, tt)
      by (Some x) t = (
        ap (λ s. reads_in x.trace s (focus_of e)) (setting-small p large documents h all whole None e.node)
            ∙ reads-same p x.trace t (setting_for None large all e.node) (λ m. string_value m (kept p all)) documents (setting-sees p large documents h all whole None e.node i) (focus_of e) i,
        reads-inside p x.trace t (setting_for None large all e.node) (λ m. string_value m (kept p all)) documents (setting-sees p large documents h all whole None e.node i) (focus_of e) i,
      )

  pub looks-ok : (e : Entry) → InPart e → (looks_of S (kept p all) e ≡ looks_of large all e) × In p (looks_of large all e)
  looks-ok e i = by (expression_of large e) (expression-known p functions given tables model e)
    where
      by : (o : Option Computed) → Told (ComputedKeeps p) o → (looks_by S (kept p all) e o ≡ looks_by large all e o) × In p (looks_by large all e o)
      by None t = (refl, tt)
      by (Some x) t = (
        ap (λ s. looks_in x.trace s (focus_of e)) (setting-small p large documents h all whole None e.node)
            ∙ looks-same p x.trace t (setting_for None large all e.node) (λ m. string_value m (kept p all)) documents (setting-sees p large documents h all whole None e.node i) (focus_of e) i,
        looks-inside p x.trace t (setting_for None large all e.node) (λ m. string_value m (kept p all)) documents (setting-sees p large documents h all whole None e.node i) (focus_of e) i,
      )

  -- ---- lists of entries

  pub asks-ok : {X : Type 0} (ask : Entry → List ℕ → List ℕ → List ℕ → X) (entries : List Entry) → Each InPart entries →
      map (λ e. ask e (reads_of S (kept p all) e) (looks_of S (kept p all) e) (ancestors_of e.node (kept p all))) entries ≡ map (λ e. ask e (reads_of large all e) (looks_of large all e) (ancestors_of e.node all)) entries
  asks-ok ask entries i =
      map-on InPart (λ e. ask e (reads_of S (kept p all) e) (looks_of S (kept p all) e) (ancestors_of e.node (kept p all))) (λ e. ask e (reads_of large all e) (looks_of large all e) (ancestors_of e.node all)) entries i
      (λ e j.
      ap (λ r. ask e r (looks_of S (kept p all) e) (ancestors_of e.node (kept p all))) (reads-ok e j).0
      ∙ ap (λ l. ask e (reads_of large all e) l (ancestors_of e.node (kept p all))) (looks-ok e j).0
      ∙ ap (ask e (reads_of large all e) (looks_of large all e)) (above-same p all whole e.node j))

  sum-on : (f g : Entry → ℕ) (start : ℕ) (entries : List Entry) → Each InPart entries → ((e : Entry) → InPart e → f e ≡ g e) → fold (λ n e. n + f e) start entries ≡ fold (λ n e. n + g e) start entries
  sum-on f g start [] i k = refl
  sum-on f g start (e ∷ es) i k = ap (λ n. fold (λ m x. m + f x) (start + n) es) (k e i.0) ∙ sum-on f g (start + g e) es i.1 k

  pub count-ok : (entries : List Entry) → Each InPart entries → edge_count S (kept p all) entries ≡ edge_count large all entries
  count-ok entries i =
      sum-on (asked_size S (kept p all)) (asked_size large all) 0 (filter is_computed entries) (each-filter InPart is_computed entries i)
      (λ e j. ap (λ ns. length ns + length (looks_of S (kept p all) e)) (reads-ok e j).0 ∙ ap (λ ns. length (reads_of large all e) + length ns) (looks-ok e j).0)

  -- ---- the graph

  none-at : (n : ℕ) (entries : List Entry) → Each InPart entries → p n ≡ false → filter (λ e. e.node == n) entries ≡ []
  none-at n [] i k = refl
  none-at n (e ∷ es) i k = by (e.node == n) refl (none-at n es i.1 k)
    where
      by : (b : Bool) → (e.node == n) ≡ b → filter (λ f. f.node == n) es ≡ [] → cond b (e ∷ filter (λ f. f.node == n) es) (filter (λ f. f.node == n) es) ≡ []
      by true j f = no (sym k ∙ ap p (sym (eqb-true e.node n j)) ∙ i.0)
      by false j f = f

  nodes-same : (entries : List Entry) → Each InPart entries → (ys : List Visit) → by_nodes (kept p ys) entries ≡ by_nodes ys entries
  nodes-same entries i [] = refl
  nodes-same entries i (y ∷ ys) = by (p y.number) refl (nodes-same entries i ys)
    where
      by : (b : Bool) → p y.number ≡ b → by_nodes (kept p ys) entries ≡ by_nodes ys entries → by_nodes (cond b (y ∷ kept p ys) (kept p ys)) entries ≡ filter (λ e. e.node == y.number) entries ++ by_nodes ys entries
      by true j f = ap (λ l. filter (λ e. e.node == y.number) entries ++ l) f
      by false j f = f ∙ sym (ap (λ l. l ++ by_nodes ys entries) (none-at y.number entries i j))

  nodes-in : (entries : List Entry) → Each InPart entries → (ys : List Visit) → Each InPart (by_nodes ys entries)
  nodes-in entries i [] = tt
  nodes-in entries i (y ∷ ys) = append (filter (λ e. e.node == y.number) entries) (by_nodes ys entries) (each-filter InPart (λ e. e.node == y.number) entries i) (nodes-in entries i ys)
    where
      append : (es fs : List Entry) → Each InPart es → Each InPart fs → Each InPart (es ++ fs)
      append [] fs d g = g
      append (e ∷ es) fs d g = (d.0, append es fs d.1 g)

  abbrev with_reads : ℕ → List ℕ → Reader
  with_reads n reads = record { node = n; reads = reads }

  abbrev reader : Scope → List Visit → Entry → Reader
  reader scope visits e = with_reads e.node (reads_of scope visits e)

  pub calculated-ok : (entries : List Entry) → Each InPart entries → calculated S (kept p all) entries ≡ calculated large all entries
  calculated-ok entries i =
      let own = each-filter InPart is_calculate entries i in
      ap (map (reader S (kept p all))) (nodes-same (filter is_calculate entries) own all)
      ∙ map-on InPart (reader S (kept p all)) (reader large all) (by_nodes all (filter is_calculate entries)) (nodes-in (filter is_calculate entries) own all)
      (λ e j. ap (with_reads e.node) (reads-ok e j).0)

  readers-in : (entries : List Entry) → Each InPart entries → Each (λ (r : Reader). p r.node ≡ true) (map (reader large all) entries)
  readers-in [] i = tt
  readers-in (e ∷ es) i = (i.0, readers-in es i.1)

  dependents-ok : (readers : List Reader) → Each (λ (r : Reader). p r.node ≡ true) readers → dependents (kept p all) readers ≡ dependents all readers
  dependents-ok readers i =
      map-on (λ (r : Reader). p r.node ≡ true) (λ source. places_of (λ reader. touches (kept p all) reader.reads source.node) readers) (λ source. places_of (λ reader. touches all reader.reads source.node) readers) readers i
      (λ source j. ap (λ ns. places_of (λ reader. list_any (λ m. has m reader.reads) (source.node ∷ ns)) readers) (above-same p all whole source.node j))

  pub graph-ok : (entries : List Entry) → Each InPart entries → graph_over S (kept p all) entries ≡ graph_over large all entries
  graph-ok entries i =
      ap (dependents (kept p all)) (calculated-ok entries i)
      ∙ dependents-ok (calculated large all entries) (readers-in (by_nodes all (filter is_calculate entries)) (nodes-in (filter is_calculate entries) (each-filter InPart is_calculate entries i) all))

  -- ---- values

  pub value-ok : (most : Option ℕ) (e : Entry) → InPart e → Agree (Inside p) (value_of most S (kept p all) e) (value_of most large all e)
  value-ok most e i = by (expression_of large e) (expression-known p functions given tables model e)
    where
      by : (o : Option Computed) → Told (ComputedKeeps p) o → Agree (Inside p) (value_by most S (kept p all) e o) (value_by most large all e o)
      by None t = record { same = refl; told = tt }
      by (Some x) t =
          let a = t.meaning (setting_for most large all e.node) (λ m. string_value m (kept p all)) documents (setting-sees p large documents h all whole most e.node i) (focus_of e) i in
          record { same = ap (λ s. x.trace.meaning s (focus_of e)) (setting-small p large documents h all whole most e.node) ∙ a.same; told = a.told }

  pub text-ok : (most : Option ℕ) (e : Entry) → InPart e → text_of most S (kept p all) e ≡ text_of most large all e
  text-ok most e i =
      ap (λ s. value_of most S (kept p all) e >>= string_of s) (setting-small p large documents h all whole most e.node)
      ∙ (agree-then {Q = λ (text : List ℕ). ⊤} (value_of most S (kept p all) e) (value_of most large all e) (string_of (over most e)) (string_of (setting_for most large all e.node)) (value-ok most e i)
      (λ v j. agree-any (string_of (over most e) v) (string_of (setting_for most large all e.node) v)
      (string-same p (setting_for most large all e.node) (λ m. string_value m (kept p all)) documents (setting-sees p large documents h all whole most e.node i) v j) (λ text. tt))).same
