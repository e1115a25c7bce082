-- The value of the program's `Message`, whose fields are named and whose bytes are borrowed: the same fields, with
-- lists of numbers.
use Rattle.std.specs.Prelude.{ℕ, option_copied, Result, Ok, Err}
use Rattle.dap_msg.specs.declared.dap_message.Message.{Message}
use Rattle.dap_msg.specs.declared.dap_message.Message.TheVariants as message
use Rattle.dap_msg.specs.declared.fault.MsgFault.{MsgFault}
use Rattle.dap_msg.specs.Message.{Message as MessageValue, Config, Attrib, Access, Control, Contran, Ack, Accomp, Filedata, Status, Other}

-- the value with the same fields
abbrev pub message_value : Message → MessageValue
message_value (message.Config bufsiz ostype filesys vernum econum usrnum softver usrsoft syscap) = Config (record {
  bufsiz = bufsiz;
  ostype = ostype;
  filesys = filesys;
  vernum = vernum;
  econum = econum;
  usrnum = usrnum;
  softver = softver;
  usrsoft = usrsoft;
  syscap = syscap;
})
message_value (message.Attrib datatype org rfm rat bls mrs alq bks fsz mrn runsys deq fop bsz dev sdc lrl hbk ebk ffb sbn) = Attrib (record {
  datatype = datatype;
  org = org;
  rfm = rfm;
  rat = rat;
  bls = bls;
  mrs = mrs;
  alq = option_copied alq;
  bks = bks;
  fsz = fsz;
  mrn = option_copied mrn;
  runsys = option_copied runsys;
  deq = deq;
  fop = fop;
  bsz = bsz;
  dev = dev;
  sdc = sdc;
  lrl = lrl;
  hbk = option_copied hbk;
  ebk = option_copied ebk;
  ffb = ffb;
  sbn = option_copied sbn;
})
message_value (message.Access func opt name fac shr display password) = Access (record {
  func = func;
  opt = opt;
  name = name.now;
  fac = fac;
  shr = shr;
  display = display;
  password = password.now;
})
message_value (message.Control func rac key krf rop hsh display) = Control (record {
  func = func;
  rac = rac;
  key = option_copied key;
  krf = krf;
  rop = rop;
  hsh = option_copied hsh;
  display = display;
})
message_value (message.Contran func) = Contran func
message_value message.Ack = Ack
message_value (message.Accomp func fop check) =
    Accomp (record { func = func; fop = fop; check = check })
message_value (message.Filedata recnum payload) = Filedata recnum.now payload.now
message_value (message.Status code rfa recnum stv) = Status (record { code = code; rfa = rfa.now; recnum = recnum.now; stv = stv.now })
message_value (message.Other number body) = Other number body.now

-- the answer of `decode`, with the value of its message
abbrev pub message_answer_value : Result (Message × ℕ) MsgFault → Result (MessageValue × ℕ) MsgFault
message_answer_value (Ok x) = Ok (message_value x.0, x.1)
message_answer_value (Err fault) = Err fault
