-- `script::Name::word` meets its contract: the definition's words, character by character.
use Rattle.script.proofs.Name.word.Goals as goal

pub returns-in-Head : goal.returns-in-Head
returns-in-Head c = rw c.in-Head.is

pub returns-in-Send : goal.returns-in-Send
returns-in-Send c = rw c.in-Send.is

pub returns-in-Tick : goal.returns-in-Tick
returns-in-Tick c = rw c.in-Tick.is

pub returns-in-Measure : goal.returns-in-Measure
returns-in-Measure c = rw c.in-Measure.is

pub returns-in-Keys : goal.returns-in-Keys
returns-in-Keys c = rw c.in-Keys.is

pub returns-in-Power : goal.returns-in-Power
returns-in-Power c = rw c.in-Power.is

pub returns-in-Space : goal.returns-in-Space
returns-in-Space c = rw c.in-Space.is

pub returns-in-Xor : goal.returns-in-Xor
returns-in-Xor c = rw c.in-Xor.is

pub returns-in-Ask : goal.returns-in-Ask
returns-in-Ask c = rw c.in-Ask.is

pub returns-in-Save : goal.returns-in-Save
returns-in-Save c = rw c.in-Save.is

pub returns-in-Load : goal.returns-in-Load
returns-in-Load c = rw c.in-Load.is

pub returns-in-Rack : goal.returns-in-Rack
returns-in-Rack c = rw c.in-Rack.is

pub returns-in-Bring : goal.returns-in-Bring
returns-in-Bring c = rw c.in-Bring.is
