-- The table of phases in which a request may be asked.
use Rattle.std.specs.Prelude.{Bool, true, false}
use Rattle.dap_accessing.specs.Request.{Request}
use Rattle.dap_accessing.specs.declared.request.Request.TheVariants.{Hello, Create, OpenFile, Connect, Get, Put, Update, Delete, Rewind, Fetch, Store, Continue, Close, Purge}
use Rattle.dap_accessing.specs.declared.phase.Phase.{Phase}
use Rattle.dap_accessing.specs.declared.phase.Phase.TheVariants.{Fresh, Ready, Opened, Connected, Stopped}

-- the request may be asked in the phase
abbrev pub phase_fits : Phase → Request → Bool
phase_fits Fresh Hello = true
phase_fits Ready (Create _ _ _ _ _ _) = true
phase_fits Ready (OpenFile _ _) = true
phase_fits Opened Connect = true
phase_fits Opened Close = true
phase_fits Opened Purge = true
phase_fits Stopped (Continue _) = true
phase_fits Stopped Close = true
phase_fits Stopped Purge = true
phase_fits Connected (Get _) = true
phase_fits Connected (Put _ _) = true
phase_fits Connected (Update _) = true
phase_fits Connected Delete = true
phase_fits Connected Rewind = true
phase_fits Connected Fetch = true
phase_fits Connected (Store _) = true
phase_fits Connected Close = true
phase_fits Connected Purge = true
phase_fits _ _ = false
