-- Where the nodes of a server are, by a directory file.
use Rattle.std.specs.Prelude.{ℕ}
use Rattle.toml.specs.Data.{Data}
use Rattle.gb_directory_file.specs.{Directory.IsListed, Faults.IsFault}
use Rattle.gb_client_run.specs.declared.{listed.Listed.Listed, listed.ListFault.ListFault, listed.ListFault.TheVariants.OutOfMemory, listed.ListFault.TheVariants.Node}

-- the directory says of the node of a tenant's cluster that its sessions are there
abbrev pub IsPlaceOf : Data → ℕ → Listed → Type 0
IsPlaceOf file tenant listed = IsListed file tenant listed.node.number listed.host.now listed.port

-- why nodes are not listed; lack of memory says nothing of the directory
abbrev pub IsListFault : Data → ℕ → ListFault → Type 0
IsListFault file tenant OutOfMemory = Unit {0}
IsListFault file tenant (Node node fault) = IsFault file tenant node.number fault
