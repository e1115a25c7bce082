use Rattle.std.proofs.Common.{ℕ, List, ◌≡◌, ◌<◌, ◌∙◌, Ok, Some, arith, ap, length, subst, sym}
use Rattle.std.specs.FinMap as map
use Rattle.std.proofs.lemmas.Bool.{lt-leb}
use Rattle.dap_msg.specs.Canon.{canon}
use Rattle.rec_file.specs.AnyFiles.{any_value}
use Rattle.rec_file.specs.Files.{FileVal}
use Rattle.rec_file.specs.Acts.{act, get_record}
use Rattle.dap_accessed.specs.Standing.{Effect, the_file}
use Rattle.dap_accessed.specs.Records.{filedata_of, get_pick}
use Rattle.dap_accessed.specs.Sessions.{SessionValue, with_files}
use Rattle.dap_accessed.specs.Inner.Moves.{Makes, does, scene_in}
use Rattle.dap_accessed.proofs.Fetching.{filedata_size}
use Rattle.dap_accessed.proofs.Getting.{got-large}
use Rattle.dap_accessed.proofs.session.Session.get.Goals as goal

pub returns-then-filedata_len-from-clause-ok : goal.returns-then-filedata_len-from-clause-ok
returns-then-filedata_len-from-clause-ok c =
    let p = with_files c.args.files.now c.args.self.now in
    let n : ℕ = c.in-Ok-read.read.0 in
    let body : List ℕ = c.in-Ok-read.read.1.now in
    let limit : c.self.inside.limit ≡ c.args.self.now.limit = ap (λ (s : SessionValue). s.limit) c.self.view_is in
    let large : c.args.self.now.limit < length (canon (filedata_of (n, body))) = omega (arith, filedata_size (n, body), c.if-filedata_len-from.true, c.filedata_len.ensures, c.from.ensures, limit) in
    let file : any_value c.file-file.result.now ≡ the_file c.args.files.now c.args.opened = c.file-file.ensures in
    let picked : get_pick (the_file c.args.files.now c.args.opened) c.args.stream c.args.control.now ≡ Ok c.in-Ok.pick =
    ap (λ (f : FileVal). get_pick f c.args.stream c.args.control.now) (sym file) ∙ sym c.pick_for.ensures ∙ c.in-Ok.is in
    let replied = subst (λ (f : FileVal). (act (get_record c.in-Ok.pick) f c.args.stream).reply ≡ Ok n) file c.in-Ok-read.ensures.reply in
    let there = subst (λ (f : FileVal). map.get f.records n ≡ Some body) file c.in-Ok-read.ensures.same in
    subst (λ (e : Effect). Makes (does p e) p (with_files c.args.files.now c.refuse_large.new.self) c.refuse_large.result)
    (sym (got-large (scene_in p) c.args.opened c.args.stream _ c.in-Ok.pick n body picked replied there (lt-leb _ _ large))) c.refuse_large.ensures.ok
