use Rattle.std.proofs.Common.{◌≡◌, ◌≤◌, ◌++◌, ◌∙◌, true, length, map, refl, ap, sym, take_all, arith}
use Rattle.std.specs.Prelude.{slice_get}
use Rattle.std.specs.List.{list_all}
use Rattle.xf_def_forest.specs.Shape.{shape_of}
use Rattle.xf_funcs.specs.Called.{called}
use Rattle.xf_def_model.specs.Rules.{scope_of}
use Rattle.xf_binds.specs.Held.{Held, entries_in}
use Rattle.xf_binds_rebuild.specs.Found.{asks_at, is_small, is_there}
use Rattle.xf_binds_rebuild.specs.Web.{asks_of}
use Rattle.xf_binds_rebuild.proofs.Expressions.{all-at, all-next, web-next}
use Rattle.xf_binds_rebuild.proofs.Linked.{mapped-length}
use Rattle.xf_binds_rebuild.proofs.web.web_of.Goals as goal

pub loop-at-init : goal.loop-at-init
loop-at-init g c = record { web = c.new-web.ensures; small = refl }

pub push_asks-requires-clause-there : goal.push_asks-requires-clause-there
push_asks-requires-clause-there g c = all-at (is_there c.args.forest.now.forest.nodes) c.loop-at.at (entries_in c.args.applied.now) c.requires.there

pub loop-at-preserved : goal.loop-at-preserved
loop-at-preserved g c =
    let scope = scope_of called (g.A.Around.given c.args.around.now) c.args.tables.now c.args.model in
    let all = shape_of c.args.forest.now.forest.nodes in
    let entries = entries_in c.args.applied.now in
    record {
      web =
          c.in_ok-push_asks.ensures.web
          ∙ ap (λ l. l ++ asks_at scope all (slice_get entries c.loop-at.at)) c.loop-at.invariant.web
          ∙ sym (web-next scope all c.loop-at.at entries);
      small = all-next is_small c.loop-at.at entries c.loop-at.invariant.small c.push_asks.ensures.small;
    }

pub returns-clause-web : goal.returns-clause-web
returns-clause-web g c =
    let scope = scope_of called (g.A.Around.given c.args.around.now) c.args.tables.now c.args.model in
    let entries = entries_in c.args.applied.now in
    let all : length entries ≤ c.loop-at.at = omega (arith, c.loop-at-test.false, c.len-at-end.ensures, mapped-length (λ (h : Held). h.entry) c.args.applied.now) in
    c.loop-at.invariant.web ∙ ap (map (asks_of scope (shape_of c.args.forest.now.forest.nodes))) (take_all c.loop-at.at entries all)

pub returns-clause-small : goal.returns-clause-small
returns-clause-small g c =
    let entries = entries_in c.args.applied.now in
    let all : length entries ≤ c.loop-at.at = omega (arith, c.loop-at-test.false, c.len-at-end.ensures, mapped-length (λ (h : Held). h.entry) c.args.applied.now) in
    ap (list_all is_small) (sym (take_all c.loop-at.at entries all)) ∙ c.loop-at.invariant.small
