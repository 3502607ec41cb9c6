use Rattle.gb_types.specs.Common.{sym, subst, refl}
use Rattle.gb_cluster_file.specs.Cluster.{IsNumber}
use Rattle.gb_cluster_file.proofs.check.version_at.Goals as goal

pub returns-in-Ok-None-clause-ok : goal.returns-in-Ok-None-clause-ok
returns-in-Ok-None-clause-ok c = (3, subst (λ o. IsNumber o 3 3) (sym (rw c.in-Ok-None.field-0-is at c.in-Ok-None.ensures.ok)) refl, refl)
