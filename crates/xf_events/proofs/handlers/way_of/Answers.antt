use Rattle.std.proofs.Common.{◌≡◌, [], ◌∷◌, ◌++◌, sym, ap, ◌∙◌}
use Rattle.std.specs.Prelude.{reverse, if◌then◌else◌}
use Rattle.std.proofs.lemmas.List.{append-nil}
use Rattle.xf_def_syntax.specs.declared.action.Phase.TheVariants.{Capture, Default}
use Rattle.xf_def_ui.specs.Elements.{ancestors, path_to}
use Rattle.xf_def_ui.specs.Interface.{interface_of}
use Rattle.xf_actions.specs.Seen.{fired_of}
use Rattle.xf_events.specs.declared.handlers.Stop.{Stop}
use Rattle.xf_events.specs.Handlers.{stops_at}
use Rattle.xf_events.proofs.HandlerLaws.{way-is}
use Rattle.xf_events.proofs.handlers.way_of.Goals.{then-fired+in_ok-push_up, else-fired}
use Rattle.xf_events.proofs.handlers.way_of.Goals as goal

pub returns : goal.returns
returns c =
    let f = interface_of c.args.form.now in
    let e = (fired_of c.args.fired.now).event in
    let stop : Stop = record { phase = Default; observer = e.target } in
    let around : c.as_slice.result.now ≡ ancestors f e.target = c.as_slice.ensures ∙ c.in_ok-around.ensures in
    let down : c.push.new.self.items ≡ stops_at Capture (path_to f e.target) ++ stop ∷ [] =
    c.in_ok-push.ensures.items ∙ ap (λ l. l ++ stop ∷ [])
    (c.in_ok-push_down.ensures ∙ ap (λ l. l ++ stops_at Capture (reverse c.as_slice.result.now)) c.new-way.ensures.items ∙ ap (λ ns. stops_at Capture (reverse ns)) around) in
    let whole : c.if-fired.way'.items ≡ (stops_at Capture (path_to f e.target) ++ stop ∷ []) ++ (if e.bubbles then stops_at Default (ancestors f e.target) else []) =
    elim c.if-fired.branch [
      | then-fired+in_ok-push_up w ↦
          rw w.way'-is (
          w.in_ok-push_up.ensures ∙ ap (λ l. l ++ stops_at Default w.as_slice-then-fired.result.now) down
          ∙ ap (λ ns. (stops_at Capture (path_to f e.target) ++ stop ∷ []) ++ stops_at Default ns) (w.as_slice-then-fired.ensures ∙ c.in_ok-around.ensures)
          ∙ ap (λ b. (stops_at Capture (path_to f e.target) ++ stop ∷ []) ++ (if b then stops_at Default (ancestors f e.target) else [])) (sym w.if-fired.true))
      | else-fired w ↦
          rw w.way'-is (
          down ∙ sym (append-nil (stops_at Capture (path_to f e.target) ++ stop ∷ []))
          ∙ ap (λ b. (stops_at Capture (path_to f e.target) ++ stop ∷ []) ++ (if b then stops_at Default (ancestors f e.target) else [])) (sym w.if-fired.false))
    ] in
    way-is f e c.if-fired.way'.items whole
