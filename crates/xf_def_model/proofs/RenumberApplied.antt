-- What binds apply goes with a renumbering of the nodes.
use Rattle.std.proofs.Common.{◌≡◌, ℕ, zero, suc, ◌==◌, Bool, true, false, ◌&&◌, List, [], ◌∷◌, ◌++◌, map, Option, Some, None, option_map, unwrap_or, if◌then◌else◌, refl, sym, ap, ◌∙◌}
use Rattle.std.specs.Prelude.{get_or}
use Rattle.std.specs.List.{list_any, flat_map, position_or_len}
use Rattle.std.proofs.lemmas.List.{map-append, length-map}
use Rattle.xf_def_forest.specs.declared.content.Node.{Node}
use Rattle.xf_def_forest.specs.Forest.{is_element}
use Rattle.xf_def_forest.specs.Visit.{Visit, is_first}
use Rattle.xf_def_forest.specs.Shape.{has_elements, shape_of}
use Rattle.xf_def_forest.specs.Same.{IsRenumbering, KeepsTexts, renumbered, renumbered_visit}
use Rattle.xf_def_forest.proofs.RenumberLaws.{any-through, flat-through, map-map, has-renumbered, first-renumbered}
use Rattle.xf_def_forest.proofs.RenumberTexts.{shape_of-renumbered}
use Rattle.xf_def_xpath.specs.Setting.{in_order, joined}
use Rattle.xf_def_xpath.specs.Asked.{Trace}
use Rattle.xf_def_xpath.proofs.RenumberLaws.{in_order-renumbered, joined-renumbered}
use Rattle.xf_def_model.specs.declared.property.Property.{Property}
use Rattle.xf_def_model.specs.Rules.{Rule, Scope, chain_around, chains_after, chains}
use Rattle.xf_def_model.specs.Nested.{sets_of}
use Rattle.xf_def_model.specs.Applied.{Entry, Exception, twice, on_parent, is_property, properties_of, standing_in, entry_of, entries_at, entries_on, entries_by, entries_from, all_entries, is_calculate, sets_same, exception_at, or_later, exception_from, unless, applied_over, applied}
use Rattle.xf_def_model.specs.Pertinent.{AllOf}
use Rattle.xf_def_model.specs.Same.{renumbered_entry, renumbered_exception, renumbered_scope, renumbered_applied}
use Rattle.xf_def_model.proofs.RenumberBinds.{TraceGoes, flat-goes, sets-renumbered}

-- ---- the binds around a bind

module _ (f : ℕ → ℕ) where
  abbrev pub AllGo : List Trace → Type 0
  AllGo ts = AllOf (TraceGoes f) ts

  go-append : (ts us : List Trace) → AllGo ts → AllGo us → AllGo (ts ++ us)
  go-append [] us g h = h
  go-append (t ∷ ts) us g h = (g.0, go-append ts us g.1 h)

  chains-append : (xs ys : List (List Trace)) → AllOf AllGo xs → AllOf AllGo ys → AllOf AllGo (xs ++ ys)
  chains-append [] ys g h = h
  chains-append (x ∷ xs) ys g h = (g.0, chains-append xs ys g.1 h)

  pub got : (xs : List (List Trace)) (k : ℕ) → AllOf AllGo xs → AllGo (get_or xs k [])
  got [] k g = tt
  got (x ∷ xs) zero g = g.0
  got (x ∷ xs) (suc k) g = got xs k g.1

  around-goes : (known : List (List Trace)) (around : Option ℕ) → AllOf AllGo known → AllGo (chain_around known around)
  around-goes known None g = tt
  around-goes known (Some k) g = got known k g

  abbrev pub SetGoes : Rule → Type 0
  SetGoes r = TraceGoes f r.node_set

  chains-go : (known : List (List Trace)) (rs : List Rule) → AllOf AllGo known → AllOf SetGoes rs → AllOf AllGo (chains_after known rs)
  chains-go known [] g h = g
  chains-go known (r ∷ rs) g h =
      chains-go (known ++ (chain_around known r.around ++ r.node_set ∷ []) ∷ []) rs
      (chains-append known ((chain_around known r.around ++ r.node_set ∷ []) ∷ []) g
      (go-append (chain_around known r.around) (r.node_set ∷ []) (around-goes known r.around g) (h.0, tt), tt)) h.1

  pub all-chains_go : (scope : Scope) → AllOf SetGoes scope.rules → AllOf AllGo (chains scope)
  all-chains_go scope h = chains-go [] scope.rules tt h

module _ (f : ℕ → ℕ) (same : IsRenumbering f) where
  -- ---- what one bind sets

  place-renumbered : (n : ℕ) (ns : List ℕ) → position_or_len (λ m. m == f n) (map f ns) ≡ position_or_len (λ m. m == n) ns
  place-renumbered n [] = refl
  place-renumbered n (m ∷ ms) = rw (same m n, place-renumbered n ms) refl

  standing-renumbered : (n : ℕ) (set : List ℕ) → standing_in (f n) (map f set) ≡ standing_in n set
  standing-renumbered n set = rw (has-renumbered f same n set, place-renumbered n set, length-map set f) refl

  at-renumbered : (bind : ℕ) (sets : List (List ℕ)) (n : ℕ) (p : Property) → entries_at bind (map (map f) sets) (f n) p ≡ map (renumbered_entry f) (entries_at bind sets n p)
  at-renumbered bind sets n p =
      ap (map (entry_of bind p (f n))) (flat-through (map f) (standing_in (f n)) (standing_in n) (standing-renumbered n) sets)
      ∙ sym (map-map (renumbered_entry f) (entry_of bind p n) (flat_map (standing_in n) sets))

  each-property : (bind : ℕ) (sets : List (List ℕ)) (n : ℕ) (ps : List Property)
      → flat_map (entries_at bind (map (map f) sets) (f n)) ps ≡ map (renumbered_entry f) (flat_map (entries_at bind sets n) ps)
  each-property bind sets n [] = refl
  each-property bind sets n (p ∷ ps) =
      rw (at-renumbered bind sets n p, each-property bind sets n ps) (sym (map-append (renumbered_entry f) (entries_at bind sets n p) (flat_map (entries_at bind sets n) ps)))

  on-renumbered : (bind : ℕ) (sets : List (List ℕ)) (ps : List Property) (ns : List ℕ) → entries_on bind (map (map f) sets) ps (map f ns) ≡ map (renumbered_entry f) (entries_on bind sets ps ns)
  on-renumbered bind sets ps ns =
      flat-goes f (renumbered_entry f) (λ n. flat_map (entries_at bind sets n) ps) (λ n. flat_map (entries_at bind (map (map f) sets) n) ps) (λ n. each-property bind sets n ps) ns

  module _ (scope : Scope) (all : List Visit) (goes : AllOf (SetGoes f) scope.rules) where
    abbrev others : List Visit
    others = map (renumbered_visit f) all

    sets-or_none : (m : Option (List (List ℕ))) → unwrap_or (option_map (map (map f)) m) [] ≡ map (map f) (unwrap_or m [])
    sets-or_none None = refl
    sets-or_none (Some sets) = refl

    by-renumbered : (bind : ℕ) (r : Rule) → SetGoes f r → entries_by (renumbered_scope f scope) others bind r ≡ map (renumbered_entry f) (entries_by scope all bind r)
    by-renumbered bind r own =
        let sets = unwrap_or (sets_of None scope all r) [] in
        ap (λ (found : List (List ℕ)). entries_on bind found (properties_of r) (in_order others (joined found)))
        (ap (λ m. unwrap_or m []) (sets-renumbered f same None scope all r (around-goes f (chains scope) r.around (all-chains_go f scope goes)) own) ∙ sets-or_none (sets_of None scope all r))
        ∙ ap (entries_on bind (map (map f) sets) (properties_of r)) (ap (in_order others) (joined-renumbered f sets) ∙ in_order-renumbered f same all (joined sets))
        ∙ on-renumbered bind sets (properties_of r) (in_order all (joined sets))

    if-renumbered : (b : Bool) (xs : List Entry) (xs' : List Entry) → xs' ≡ map (renumbered_entry f) xs → (if b then xs' else []) ≡ map (renumbered_entry f) (if b then xs else [])
    if-renumbered true xs xs' h = h
    if-renumbered false xs xs' h = refl

    from-renumbered : (bind : ℕ) (rs : List Rule) → AllOf (SetGoes f) rs → entries_from (renumbered_scope f scope) others bind rs ≡ map (renumbered_entry f) (entries_from scope all bind rs)
    from-renumbered bind [] h = refl
    from-renumbered bind (r ∷ rs) h =
        rw (if-renumbered (r.model == scope.model) (entries_by scope all bind r) (entries_by (renumbered_scope f scope) others bind r) (by-renumbered bind r h.0), from-renumbered (suc bind) rs h.1)
        (sym (map-append (renumbered_entry f) (if r.model == scope.model then entries_by scope all bind r else []) (entries_from scope all (suc bind) rs)))

    pub entries-renumbered : all_entries (renumbered_scope f scope) others ≡ map (renumbered_entry f) (all_entries scope all)
    entries-renumbered = from-renumbered 0 scope.rules goes

    -- ---- exceptions

    elements-renumbered : (n : ℕ) → has_elements others (f n) ≡ has_elements all n
    elements-renumbered n =
        any-through (renumbered_visit f) (λ y. is_element y.content && is_first (f n) y.above) (λ y. is_element y.content && is_first n y.above)
        (λ y. ap (λ b. is_element y.content && b) (first-renumbered f same n y.above)) all

    twice-renumbered : (e : Entry) (earlier : List Entry) → list_any (sets_same (renumbered_entry f e)) (map (renumbered_entry f) earlier) ≡ list_any (sets_same e) earlier
    twice-renumbered e earlier =
        any-through (renumbered_entry f) (sets_same (renumbered_entry f e)) (sets_same e) (λ x. ap (λ b. b && is_property e.property x.property) (same e.node x.node)) earlier

    exception-cases : (b c : Bool) (n : ℕ)
        → (if b then Some (twice (f n)) else if c then Some (on_parent (f n)) else None) ≡ option_map (renumbered_exception f) (if b then Some (twice n) else if c then Some (on_parent n) else None)
    exception-cases true c n = refl
    exception-cases false true n = refl
    exception-cases false false n = refl

    exception-renumbered : (earlier : List Entry) (e : Entry)
        → exception_at others (map (renumbered_entry f) earlier) (renumbered_entry f e) ≡ option_map (renumbered_exception f) (exception_at all earlier e)
    exception-renumbered earlier e =
        rw (twice-renumbered e earlier, elements-renumbered e.node) (exception-cases (list_any (sets_same e) earlier) (is_calculate e && has_elements all e.node) e.node)

    later-renumbered : (x y : Option Exception) → or_later (option_map (renumbered_exception f) x) (option_map (renumbered_exception f) y) ≡ option_map (renumbered_exception f) (or_later x y)
    later-renumbered None y = refl
    later-renumbered (Some x) y = refl

    first-exception_renumbered : (earlier es : List Entry)
        → exception_from others (map (renumbered_entry f) earlier) (map (renumbered_entry f) es) ≡ option_map (renumbered_exception f) (exception_from all earlier es)
    first-exception_renumbered earlier [] = refl
    first-exception_renumbered earlier (e ∷ es) =
        ap (λ x. or_later x (exception_from others (map (renumbered_entry f) (e ∷ earlier)) (map (renumbered_entry f) es))) (exception-renumbered earlier e)
        ∙ ap (or_later (option_map (renumbered_exception f) (exception_at all earlier e))) (first-exception_renumbered (e ∷ earlier) es)
        ∙ later-renumbered (exception_at all earlier e) (exception_from all (e ∷ earlier) es)

    unless-renumbered : (x : Option Exception) (es : List Entry) → unless (option_map (renumbered_exception f) x) (map (renumbered_entry f) es) ≡ renumbered_applied f (unless x es)
    unless-renumbered None es = refl
    unless-renumbered (Some x) es = refl

    pub applied_over-renumbered : applied_over (renumbered_scope f scope) others ≡ renumbered_applied f (applied_over scope all)
    applied_over-renumbered =
        ap (λ es. unless (exception_from others [] es) es) entries-renumbered
        ∙ ap (λ x. unless x (map (renumbered_entry f) (all_entries scope all))) (first-exception_renumbered [] (all_entries scope all))
        ∙ unless-renumbered (exception_from all [] (all_entries scope all)) (all_entries scope all)

  pub applied-renumbered : KeepsTexts f → (scope : Scope) → AllOf (SetGoes f) scope.rules → (nodes : List Node)
      → applied (renumbered_scope f scope) (map (renumbered f) nodes) ≡ renumbered_applied f (applied scope nodes)
  applied-renumbered texts scope goes nodes =
      ap (applied_over (renumbered_scope f scope)) (shape_of-renumbered f same texts nodes) ∙ applied_over-renumbered scope (shape_of nodes) goes
