use Rattle.std.proofs.Common.{◌≡◌, ap, inl, ◌∙◌}
use Rattle.dap_end.specs.Ports.{new_port}
use Rattle.live_cli.specs.Running.{link_setup}
use Rattle.live_cli.proofs.RunLemmas.{some_from}
use Rattle.live_cli.proofs.running.ask.Goals as goal

pub returns-in-Ok : goal.returns-in-Ok
returns-in-Ok g c =
    let is : c.link_setup.result ≡ link_setup c.args.options = c.link_setup.ensures in
    let new = c.in-Ok.ensures in
    some_from _ c.converse.ensures (λ input answers. inl (
      c.in-Ok.end,
      record {
        asked = new.after;
        port = new.port ∙ ap new_port is;
        is_identity = new.identity ∙ c.identity.ensures.is;
        is_setup = new.setup ∙ is;
        reports = new.reports;
        each = new.each.0;
        told = new.each.1;
      },
      answers,
    ))
