-- The messages of a request (DAP 5.6.0, message sequences).
use Rattle.std.specs.Prelude.{ℕ, List, [], ◌∷◌, ◌++◌, map, flat_map, Option, Some, None}
use Rattle.dap_msg.specs.declared.message.Configuration.{Configuration}
use Rattle.dap_msg.specs.declared.message.Message.{Message}
use Rattle.dap_msg.specs.declared.message.Message.TheVariants.{Attrib, Config, Access, Control, Contran, Filedata}
use Rattle.dap_msg.specs.Codes as codes
use Rattle.dap_msg.specs.BothEnds.{four_bytes, attributes_of, complete_with, no_attributes}
use Rattle.dap_accessing.specs.declared.request.By.{By}
use Rattle.dap_accessing.specs.declared.request.By.TheVariants.{Next, Key, Rfa}
use Rattle.dap_accessing.specs.declared.request.How.{How}
use Rattle.dap_accessing.specs.declared.request.How.TheVariants.{Again, Skip, Abort}
use Rattle.dap_accessing.specs.Request.{Request}
use Rattle.dap_accessing.specs.declared.request.Request.TheVariants.{Hello, Create, OpenFile, Connect, Get, Put, Update, Delete, Rewind, Fetch, Store, Continue, Close, Purge}

-- an Access with ACCFUNC, the name and FAC, otherwise zeros and no password
abbrev pub access : ℕ → List ℕ → ℕ → Message
access func name fac =
    Access (record { func = func; opt = 0; name = name; fac = fac; shr = 0; display = 0; password = [] })

-- a Control with CTLFUNC, and with RAC and KEY if they are given
abbrev pub control : ℕ → Option ℕ → Option (List ℕ) → Message
control func rac key =
    Control (record { func = func; rac = rac; key = key; krf = None; rop = None; hsh = None; display = None })

-- a GET of the next record, or by a key or a record file address, both in 4 bytes
abbrev pub get_by : By → Message
get_by Next = control codes.ctlfunc.get (Some codes.rac.sequential) None
get_by (Key n) = control codes.ctlfunc.get (Some codes.rac.keyed) (Some (four_bytes n))
get_by (Rfa n) = control codes.ctlfunc.get (Some codes.rac.address) (Some (four_bytes n))

-- a PUT without a key, or with one in 4 bytes
abbrev pub put_at : Option ℕ → Message
put_at None = control codes.ctlfunc.put (Some codes.rac.sequential) None
put_at (Some n) = control codes.ctlfunc.put (Some codes.rac.keyed) (Some (four_bytes n))

-- the CONFUNC of a Continue
abbrev pub how_to_go_on : How → ℕ
how_to_go_on Again = codes.confunc.again
how_to_go_on Skip = codes.confunc.skip
how_to_go_on Abort = codes.confunc.abort

-- The messages of a request, of a client with this Configuration. A Create or an OpenFile is Attributes and an Access.
-- A Put or an Update is a Control and a Data message. A Store is a PUT with RAC 3, a Data message for each record, and
-- an Access Complete that ends the stream. All others are one message.
abbrev pub messages_of : (own : Configuration) → Request → List Message
messages_of own Hello = Config own ∷ []
messages_of own (Create name org rfm mrs mrn fac) =
    attributes_of org rfm mrs mrn ∷ access codes.accfunc.creating name fac ∷ []
messages_of own (OpenFile name fac) = Attrib no_attributes ∷ access codes.accfunc.opening name fac ∷ []
messages_of own Connect = control codes.ctlfunc.connect None None ∷ []
messages_of own (Get by) = get_by by ∷ []
messages_of own (Put key body) = put_at key ∷ Filedata [] body ∷ []
messages_of own (Update body) = control codes.ctlfunc.update (Some codes.rac.sequential) None ∷ Filedata [] body ∷ []
messages_of own Delete = control codes.ctlfunc.delete (Some codes.rac.sequential) None ∷ []
messages_of own Rewind = control codes.ctlfunc.rewind (Some codes.rac.sequential) None ∷ []
messages_of own Fetch = control codes.ctlfunc.get (Some codes.rac.whole_file) None ∷ []
messages_of own (Store bodies) =
    (control codes.ctlfunc.put (Some codes.rac.whole_file) None ∷ map (Filedata []) bodies) ++ complete_with codes.cmpfunc.end_of_stream ∷ []
messages_of own (Continue how) = Contran (how_to_go_on how) ∷ []
messages_of own Close = complete_with codes.cmpfunc.close ∷ []
messages_of own Purge = complete_with codes.cmpfunc.purge ∷ []

-- the messages of all requests, in order
abbrev pub Asked : (own : Configuration) → List Request → List Message
Asked own requests = flat_map (messages_of own) requests
