-- `rows::access::access_of` meets its contract: a span of numbers between the listed ones is a computed test.
use native.Mathlib.Omega.{arith}
use borrow.Author.Rules.{rules}
use Rattle.rows.specs.declared.access.Access.TheVariants.{WriteOnly, Unknown}
use Rattle.rows.specs.Table.{rows}
use Rattle.rows.specs.Access.{access_of}
use Rattle.rows.proofs.Groups.{way}
use Rattle.rows.proofs.access.access_of.Goals as goal

pub returns-in_default : goal.returns-in_default
unfolding access_of rows
returns-in_default c = way Unknown 16 11 tt {a = c.args.address} (search rules) (omega arith) (omega arith)

pub returns-in_default-2 : goal.returns-in_default-2
unfolding access_of rows
returns-in_default-2 c = way Unknown 29 1 tt {a = c.args.address} (search rules) (omega arith) (omega arith)

pub returns-in_default-3 : goal.returns-in_default-3
unfolding access_of rows
returns-in_default-3 c = way Unknown 35 13 tt {a = c.args.address} (search rules) (omega arith) (omega arith)

pub returns-in_default-4 : goal.returns-in_default-4
unfolding access_of rows
returns-in_default-4 c = way Unknown 54 3 tt {a = c.args.address} (search rules) (omega arith) (omega arith)

pub returns-in_default-5 : goal.returns-in_default-5
unfolding access_of rows
returns-in_default-5 c = way Unknown 65 63 tt {a = c.args.address} (search rules) (omega arith) (omega arith)

pub returns-in_default-6 : goal.returns-in_default-6
unfolding access_of rows
returns-in_default-6 c = way Unknown 139 28 tt {a = c.args.address} (search rules) (omega arith) (omega arith)

pub returns-in_default-7 : goal.returns-in_default-7
unfolding access_of rows
returns-in_default-7 c = way Unknown 169 81 tt {a = c.args.address} (search rules) (omega arith) (omega arith)

pub returns-in-160-2 : goal.returns-in-160-2
unfolding access_of rows
returns-in-160-2 c = way WriteOnly 167 2 tt {a = c.args.address} (search rules) (omega arith) (omega arith)
