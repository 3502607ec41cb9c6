-- The words that lines of a schedule begin with.
use Rattle.std.specs.Prelude.{ℕ, List, codes}
use Rattle.gb_spelling.specs.CommandWords as commands
use Rattle.gb_schedule.specs.declared.head.Head.{Head}
use Rattle.gb_schedule.specs.declared.head.Head.TheVariants.{Cluster, Cluster2, Tenant, Group, Forge, Pack, Again, Ack, Arrive, Noise, Tick, Stop}

-- the word for a head
abbrev pub head_word : Head → List ℕ
head_word Cluster = codes "cluster"
head_word Cluster2 = codes "cluster2"
head_word Tenant = codes "tenant"
head_word (Group head) = commands.head_word head
head_word Forge = codes "forge"
head_word Pack = codes "pack"
head_word Again = codes "again"
head_word Ack = codes "ack"
head_word Arrive = codes "arrive"
head_word Noise = codes "noise"
head_word Tick = codes "tick"
head_word Stop = codes "stop"
