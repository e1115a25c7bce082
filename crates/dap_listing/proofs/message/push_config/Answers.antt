use Rattle.std.proofs.Common.{rules, ◌≡◌, ◌++◌, List, ℕ, OnOk}
use Rattle.std.specs.Prelude.{codes}
use Rattle.std.specs.Fmt.{decimal}
use Rattle.std.proofs.lemmas.Result.{on_ok_weaker}
use Rattle.dap_listing.specs.Messages.{version_text}
use Rattle.texts.specs.Text.{line_feed}
use Rattle.dap_listing.proofs.MessageLemmas.{appended_twice}
use Rattle.dap_listing.proofs.message.push_config.Goals as goal

pub returns-clause-added : goal.returns-clause-added
returns-clause-added c =
    let t0 = c.args.text.now.items in
    let t1 = c.push_number.new.text.items in
    let p1 : List ℕ = codes "  config bufsiz=" ++ decimal c.args.config.bufsiz in
    let t2 = c.push_number-2.new.text.items in
    let p2 : List ℕ = codes " ostype=" ++ decimal c.args.config.ostype in
    let t3 = c.push_number-3.new.text.items in
    let p3 : List ℕ = codes " filesys=" ++ decimal c.args.config.filesys in
    let t4 = c.push_str.new.text.items in
    let p4 : List ℕ = codes " version=" in
    let t5 = c.push_version.new.text.items in
    let p5 : List ℕ = version_text c.args.config.vernum c.args.config.econum c.args.config.usrnum c.args.config.softver c.args.config.usrsoft in
    let t6 = c.push_number-4.new.text.items in
    let p6 : List ℕ = codes " syscap=" ++ decimal c.args.config.syscap in
    let end = c.push_str-2.new.text.items in
    let ends : OnOk c.push_str-2.result (end ≡ t6 ++ line_feed) = search rules in
    on_ok_weaker c.push_str-2.result (λ ended. appended_twice t0 t1 end p1 (p2 ++ (p3 ++ (p4 ++ (p5 ++ (p6 ++ (line_feed)))))) c.in_ok-push_number.ensures.added (appended_twice t1 t2 end p2 (p3 ++ (p4 ++ (p5 ++ (p6 ++ (line_feed))))) c.in_ok-push_number-2.ensures.added (appended_twice t2 t3 end p3 (p4 ++ (p5 ++ (p6 ++ (line_feed)))) c.in_ok-push_number-3.ensures.added (appended_twice t3 t4 end p4 (p5 ++ (p6 ++ (line_feed))) c.in_ok-push_str.ensures.added (appended_twice t4 t5 end p5 (p6 ++ (line_feed)) c.in_ok-push_version.ensures.added (appended_twice t5 t6 end p6 (line_feed) c.in_ok-push_number-4.ensures.added ended)))))) ends
