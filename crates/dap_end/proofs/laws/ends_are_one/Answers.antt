use Rattle.std.proofs.Common.{◌∙◌, ap, refl}
use Rattle.dap_accessed.specs.Present as accessed
use Rattle.dap_accessing.specs.Present as accessing
use Rattle.dap_accessing.proofs.ForCallers.{one_present}
use Rattle.dap_end.specs.Ports.{PortValue}
use Rattle.dap_end.proofs.Determined.{present_one}
use Rattle.dap_end.proofs.laws.ends_are_one.Goals as goal

pub returns-clause-serving : goal.returns-clause-serving
returns-clause-serving c = λ past one two h k port own.
    ap (λ (p : PortValue). record one { port = p }) port
    ∙ ap (λ (x : accessed.Present). record two { present = x }) (present_one past.first past.items past.items one.present two.present refl own h.serving k.serving)

pub returns-clause-asking : goal.returns-clause-asking
returns-clause-asking c = λ past one two h k port own.
    ap (λ (p : PortValue). record one { port = p }) port
    ∙ ap (λ (x : accessing.ClientState). record two { present = x }) (one_present past.requests past.answers one.present two.present h.asking k.asking own)
